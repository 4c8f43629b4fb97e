-- What the gates that only call on exceptions return, and in which registers (docs/rules/machine.md, "Gates"; the calls: docs/rules/phases-and-exceptions.md).
use Rattle.std.specs.Prelude.{◌≡◌, ℕ, ◌<◌, length, Ok}
use Rattle.eh_cxa.specs.Allocate.{allocate_of}
use Rattle.eh_cxa.specs.Catch.{end_catch_of}
use Rattle.eh_cxa.specs.Words.{word}
use Rattle.eh_gates.specs.declared.state.Turned.TheVariants.{Went}
use Rattle.eh_gates.specs.State.{State, Tables, reg}
use Rattle.eh_gates.specs.Gates.{gate_of}

pub record Answers (g : Tables) (next : ℕ) (s t : State) : Type 0 where
  -- gate 16 gives the object of a new exception of r0 bytes in r0
  pub allocate : (object : ℕ) → (allocate_of (word s.memory) (reg s 0)).answer ≡ Ok object → gate_of g 16 next s ≡ (Went, t) → reg t 0 ≡ object
  -- gate 20 gives an object to be destroyed in r0 and its destructor in r1
  pub end_catch :
      (object destructor : ℕ) → (end_catch_of (word s.memory) s.globals).answer ≡ Ok (object, destructor) → gate_of g 20 next s ≡ (Went, t)
      → (reg t 0 ≡ object) × (reg t 1 ≡ destructor)
  -- gate 25 gives how many exceptions are uncaught in r0
  pub uncaught : gate_of g 25 next s ≡ (Went, t) → reg t 0 ≡ s.globals.uncaught

abbrev pub CallsAnswer : Type 0
CallsAnswer = (g : Tables) (next : ℕ) (s t : State) → 1 < length s.regs.r → Answers g next s t
