-- What a handler is given (docs/rules/machine.md, "A throw"; docs/rules/phases-and-exceptions.md, "The control block").
use Rattle.std.specs.Prelude.{◌≡◌, ℕ, ◌^◌, ◌<◌, length, Some, Ok}
use Rattle.eh_bus.specs.Map.{IsMap}
use Rattle.eh_bus.specs.Memory.{load}
use Rattle.eh_cxa.specs.Words.{word, block_slot}
use Rattle.eh_match.specs.declared.rules.Match.TheVariants.{Object, PointerToBase}
use Rattle.eh_phase.specs.declared.phase1.Barrier.{Barrier}
use Rattle.eh_gates.specs.declared.state.Turned.TheVariants.{Went}
use Rattle.eh_gates.specs.State.{State, Tables, reg}
use Rattle.eh_gates.specs.Throwing.{throw_to}
use Rattle.eh_gates.specs.Gates.{gate_of}

-- word 19 of a slot, barrier word 0: the address that its handler is given
abbrev pub handler_address : State → ℕ → ℕ
handler_address s slot = word s.memory slot 19

-- a handler of a pointer to a base can load the pointer at the address that it is given
abbrev pub PointersCanBeLoaded : Type 0
PointersCanBeLoaded =
    (g : Tables) (s : State) (site block slot : ℕ) (b : Barrier) (pointer : ℕ) → IsMap s.memory → block_slot block ≡ Some slot
    → b.hit ≡ PointerToBase pointer → pointer < 2 ^ 32
    → load 4 (throw_to g s site block b).1.memory (handler_address (throw_to g s site block b).1 slot) ≡ Ok pointer

-- any other handler is given the object that matched
abbrev pub ObjectsAreGiven : Type 0
ObjectsAreGiven =
    (g : Tables) (s : State) (site block slot : ℕ) (b : Barrier) (object : ℕ) → IsMap s.memory → block_slot block ≡ Some slot
    → b.hit ≡ Object object → object < 2 ^ 32 → handler_address (throw_to g s site block b).1 slot ≡ object

-- where a handler's catch begins, r0 is that address
abbrev pub CatchesGive : Type 0
CatchesGive =
    (g : Tables) (next : ℕ) (s t : State) (slot : ℕ) → block_slot (reg s 0) ≡ Some slot → 0 < length s.regs.r → gate_of g 19 next s ≡ (Went, t) → reg t 0 ≡ handler_address s slot
