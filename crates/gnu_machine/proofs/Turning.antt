-- One event of GNU's code, from what the machine's turn and the handing over have done.
use Rattle.std.proofs.Common.{◌≡◌, ℕ, List, Bool, true, false, Option, Some, None, IfSome, sym, ap, ◌∙◌}
use Rattle.std.specs.Bool.{OnFalse}
use Rattle.run_events.specs.Runs.{Goes}
use Rattle.eh_gates.specs.State.{State}
use Rattle.eh_gates.specs.declared.state.Turned.TheVariants.{Went, Ended}
use Rattle.eh_machine.specs.Turns.{TurnedOnce}
use Rattle.run_gates.specs.Given.{OnGiven}
use Rattle.run_gates.specs.Ends.{is_fault}
use Rattle.thumb_core.specs.declared.ends.End.{End}
use Rattle.sim_machines.specs.Program.{Program}
use Rattle.gnu_machine.specs.Done.{TurnedGnu}
use Rattle.gnu_machine.specs.GnuMachine.{map_goes, with_arguments_after, gnu_event}

on_false : (b : Bool) (P Q : Type 0) → OnFalse b P → (P → Q) → OnFalse b Q
on_false true P Q p f = tt
on_false false P Q p f = f p

-- it went on, and the pad was given what it is given
module _ (p : Program) (filters : List (ℕ × ℕ)) (old mid new : State) (same : new ≡ with_arguments_after p.types filters old mid) where
  goes : (input : List ℕ) (left before now : Option (List ℕ)) → TurnedOnce p old input Went mid left before now → TurnedGnu p filters old input Went new left before now
  unfolding gnu_event
  goes input left before now g = record {
    text = g.text;
    rest = g.rest;
    is = ap (map_goes (with_arguments_after p.types filters old)) g.is ∙ ap (λ (s : State). Goes s g.text g.rest) (sym same);
    leaves = g.leaves;
    wrote = g.wrote;
  }

  pub goes_told : (told left before now : Option (List ℕ)) → IfSome told (λ input. TurnedOnce p old input Went mid left before now)
      → IfSome told (λ input. TurnedGnu p filters old input Went new left before now)
  goes_told None left before now t = tt
  goes_told (Some input) left before now t = goes input left before now t

  pub goes_given : (before now : Option (List ℕ)) → OnGiven (λ input left. TurnedOnce p old input Went mid left before now)
      → OnGiven (λ input left. TurnedGnu p filters old input Went new left before now)
  goes_given before now g = record { bytes = g.bytes; left = g.left; are = g.are; done = goes g.bytes (Some g.left) before now g.done }

-- it ended the run
module _ (p : Program) (filters : List (ℕ × ℕ)) (old new : State) (end : End) where
  ends : (input : List ℕ) (left before now : Option (List ℕ)) → TurnedOnce p old input (Ended end) new left before now
      → TurnedGnu p filters old input (Ended end) new left before now
  unfolding gnu_event
  ends input left before now e = record {
    is = on_false (is_fault end) _ _ e.is (λ q. ap (map_goes (with_arguments_after p.types filters old)) q);
    fails = e.fails;
    leaves = e.leaves;
    wrote = e.wrote;
  }

  pub ends_told : (told left before now : Option (List ℕ)) → IfSome told (λ input. TurnedOnce p old input (Ended end) new left before now)
      → IfSome told (λ input. TurnedGnu p filters old input (Ended end) new left before now)
  ends_told None left before now t = tt
  ends_told (Some input) left before now t = ends input left before now t

  pub ends_given : (before now : Option (List ℕ)) → OnGiven (λ input left. TurnedOnce p old input (Ended end) new left before now)
      → OnGiven (λ input left. TurnedGnu p filters old input (Ended end) new left before now)
  ends_given before now g = record { bytes = g.bytes; left = g.left; are = g.are; done = ends g.bytes (Some g.left) before now g.done }
