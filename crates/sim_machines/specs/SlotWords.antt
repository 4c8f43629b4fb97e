-- Events that don't depend on the words of slots (docs/rules/machine.md, "Laws").
use Rattle.std.specs.Prelude.{◌≡◌, ℕ, ◌+◌, ◌%◌, ◌^◌, ◌==◌, ◌||◌, nat_lt, Bool, true, List, [], ◌∷◌, Some, Ok}
use Rattle.std.specs.Int.{bit_at}
use Rattle.run_events.specs.Runs.{Event, Goes, Ends}
use Rattle.eh_bus.specs.Lists.{Has}
use Rattle.eh_bus.specs.Map.{SameMap}
use Rattle.eh_bus.specs.Memory.{load_number, fetches}
use Rattle.eh_bus.specs.Segment.{Segment}
use Rattle.eh_cxa.specs.ListCalls.{rethrow_list}
use Rattle.eh_cxa.specs.Words.{block_slot}
use Rattle.eh_phase.specs.declared.verdict.Thrown.{Thrown}
use Rattle.thumb_isa.specs.declared.instr.Instr.TheVariants.{Bx, Pop}
use Rattle.thumb_core.specs.Step.{instr_for}
use Rattle.thumb_core.specs.Words.{Load, registers_of_list, loads_from}
use Rattle.thumb_core.specs.declared.ends.End.{End}
use Rattle.thumb_core.specs.declared.regs.TheConstants.{SP, LR, PC}
use Rattle.eh_gates.specs.declared.gates.TheConstants.{THROW_GATE, RETHROW_GATE}
use Rattle.eh_gates.specs.State.{Tables}
use Rattle.eh_gates.specs.Throwing.{bytes_of}
use Rattle.sim_machines.specs.Program.{Program, profile_in}
use Rattle.sim_machines.specs.Activations.{Recorded, slots_of, reg_in, memory_of, lists_of}
use Rattle.sim_machines.specs.ActivationMachine.{Outcome, gate_of, phase1_result, gate_thrown, slot_thrown, recorded_event}

-- the same state over other segments
abbrev pub with_segments : List Segment → Recorded → Recorded
with_segments segments s = record s { segments = segments }

abbrev pub event_over : List Segment → Event Recorded End → Event Recorded End
event_over segments (Goes t text left) = Goes (with_segments segments t) text left
event_over segments (Ends end t) = Ends end (with_segments segments t)

-- Other bytes, but only in the words of slots: the segments, their rights, the code, and each word that is no slot are the same.
pub record DifferInSlots (s : Recorded) (segments : List Segment) : Type 0 where
  pub map : SameMap s.segments segments
  pub code : (a : ℕ) → fetches segments a ≡ fetches s.segments a
  pub others : (a : ℕ) → (Has (slots_of (s.first ∷ s.outer)) a → ⊥) → load_number 4 segments a ≡ load_number 4 s.segments a

-- the registers that no activation records: r0 to r3, r12 and lr
abbrev pub is_free : ℕ → Bool
is_free k = nat_lt k 4 || (k == 12 || k == LR)

-- of the words that are loaded from a base up, no slot goes to such a register
abbrev pub LoadNoSlot : List ℕ → ℕ → List Load → Type 0
LoadNoSlot slots base [] = Unit {0}
LoadNoSlot slots base (w ∷ more) = (is_free w.reg ≡ true → Has slots ((base + w.at) % 2 ^ 32) → ⊥) × LoadNoSlot slots base more

-- A return does the same whatever the slots hold. This is so for BX, and for a POP into pc that loads r0 to r3 from other words only. A
-- slot that it loads there is data, as for LDR.
pub record ReadsNoSlot (p : Program) (s : Recorded) (segments : List Segment) (input : List ℕ) : Type 0 where
  pub bx :
      (m size : ℕ) → instr_for (profile_in p) (memory_of s) s.regs.pc ≡ Some (Bx m, size)
      → recorded_event p (with_segments segments s) input ≡ event_over segments (recorded_event p s input)
  pub pop :
      (list size : ℕ) → instr_for (profile_in p) (memory_of s) s.regs.pc ≡ Some (Pop list, size) → bit_at list PC ≡ 1
      → LoadNoSlot (slots_of (s.first ∷ s.outer)) (reg_in s SP) (loads_from 0 (registers_of_list list))
      → recorded_event p (with_segments segments s) input ≡ event_over segments (recorded_event p s input)

abbrev pub ReturnsReadNoSlot : Type 0
ReturnsReadNoSlot = (p : Program) (s : Recorded) (segments : List Segment) (input : List ℕ) → DifferInSlots s segments → ReadsNoSlot p s segments input

-- ---- throws

-- the same outcome, whatever bytes the segments hold
abbrev pub SameBut : Outcome → Outcome → Type 0
SameBut o q = (o.0 ≡ q.0) × (with_segments [] o.1 ≡ with_segments [] q.1)

-- what a throw reads of the memory is the same: the first bytes of the thrown object, and what matching reads
pub record ReadsAlike (g : Tables) (s : Recorded) (segments : List Segment) (thrown : Thrown) : Type 0 where
  pub bytes : (n : ℕ) → bytes_of (memory_of (with_segments segments s)) thrown.object n ≡ bytes_of (memory_of s) thrown.object n
  pub matches : phase1_result g (with_segments segments s) thrown ≡ phase1_result g s thrown

-- Then a throw and a rethrow do the same, whatever else the segments and slots hold. Where they land, and with which registers, comes from
-- what was recorded.
pub record ThrowsReadNoSlot (g : Tables) (next : ℕ) (s : Recorded) (segments : List Segment) : Type 0 where
  pub throw : ReadsAlike g s segments (gate_thrown s) → SameBut (gate_of g THROW_GATE next (with_segments segments s)) (gate_of g THROW_GATE next s)
  pub rethrow :
      ((block : ℕ) → (rethrow_list (lists_of s)).answer ≡ Ok block → ReadsAlike g s segments (slot_thrown (lists_of s) (block_slot block)))
      → SameBut (gate_of g RETHROW_GATE next (with_segments segments s)) (gate_of g RETHROW_GATE next s)

abbrev pub ThrowsReadNoSlots : Type 0
ThrowsReadNoSlots = (g : Tables) (next : ℕ) (s : Recorded) (segments : List Segment) → ThrowsReadNoSlot g next s segments
