-- What the gates that are calls on exceptions answer.
use Rattle.std.proofs.Common.{◌≡◌, ℕ, ◌<◌, length, Result, Ok, sym, subst, ◌∙◌, arith}
use Rattle.std.specs.Prelude.{slice_set}
use Rattle.std.proofs.lemmas.List.{get_or-set_same, get_or-set_other, length-set}
use Rattle.eh_bus.specs.Memory.{Memory}
use Rattle.eh_cxa.specs.Allocate.{allocate_of}
use Rattle.eh_cxa.specs.Catch.{end_catch_of}
use Rattle.eh_cxa.specs.Words.{word, set_slot_words}
use Rattle.eh_cxa.specs.declared.globals.Globals.{Globals}
use Rattle.eh_cxa.specs.declared.globals.CxaFault.{CxaFault}
use Rattle.eh_gates.specs.declared.state.Turned.TheVariants.{Went, Ended}
use Rattle.eh_gates.specs.State.{State, Tables, Outcome, reg}
use Rattle.eh_gates.specs.CallGates.{allocate_outcome, end_catch_outcome}
use Rattle.eh_gates.specs.Gates.{gate_of}
use Rattle.eh_gate_laws.specs.CallAnswers.{CallsAnswer}

module _ (g : Tables) (next : ℕ) (s : State) (some : 1 < length s.regs.r) where
  -- of an outcome that goes on
  abbrev HasOne : ℕ → Outcome → Type 0
  HasOne x (Went, t) = reg t 0 ≡ x
  HasOne x (Ended end, t) = Unit {0}

  abbrev HasTwo : ℕ → ℕ → Outcome → Type 0
  HasTwo x y (Went, t) = (reg t 0 ≡ x) × (reg t 1 ≡ y)
  HasTwo x y (Ended end, t) = Unit {0}

  one : (x : ℕ) (m : Memory) → HasOne x (allocate_outcome next s (Ok x, m))
  one x m = get_or-set_same s.regs.r 0 x 0 (omega (arith, some))

  two : (x y : ℕ) (h : Globals) (m : Memory) → HasTwo x y (end_catch_outcome next s (Ok (x, y), h, m))
  two x y h m = (
    get_or-set_other (slice_set s.regs.r 0 x) 1 0 y 0 (λ e. absurd (omega arith)) ∙ get_or-set_same s.regs.r 0 x 0 (omega (arith, some)),
    get_or-set_same (slice_set s.regs.r 0 x) 1 y 0 (let l = length-set s.regs.r 0 x in omega (arith, some, l)),
  )

  at_16 : (x : ℕ) → (allocate_of (word s.memory) (reg s 0)).answer ≡ Ok x → HasOne x (gate_of g 16 next s)
  unfolding gate_of
  at_16 x e =
      let d = allocate_of (word s.memory) (reg s 0) in
      subst (λ (r : Result ℕ CxaFault). HasOne x (allocate_outcome next s (r, set_slot_words d.writes s.memory))) (sym e) (one x (set_slot_words d.writes s.memory))

  at_20 : (x y : ℕ) → (end_catch_of (word s.memory) s.globals).answer ≡ Ok (x, y) → HasTwo x y (gate_of g 20 next s)
  unfolding gate_of
  at_20 x y e =
      let d = end_catch_of (word s.memory) s.globals in
      subst (λ (r : Result (ℕ × ℕ) CxaFault). HasTwo x y (end_catch_outcome next s (r, d.globals, set_slot_words d.writes s.memory))) (sym e) (two x y d.globals (set_slot_words d.writes s.memory))

  at_25 : HasOne s.globals.uncaught (gate_of g 25 next s)
  unfolding gate_of
  at_25 = get_or-set_same s.regs.r 0 s.globals.uncaught 0 (omega (arith, some))

pub calls_answer : CallsAnswer
calls_answer g next s t some = record {
  allocate = λ x a e. subst (λ (o : Outcome). HasOne g next s some x o) e (at_16 g next s some x a);
  end_catch = λ x y a e. subst (λ (o : Outcome). HasTwo g next s some x y o) e (at_20 g next s some x y a);
  uncaught = λ e. subst (λ (o : Outcome). HasOne g next s some s.globals.uncaught o) e (at_25 g next s some);
}
