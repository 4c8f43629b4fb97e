-- Where a run with nothing to read stands, from what its calls have done.
use Rattle.std.proofs.Common.{◌≡◌, ℕ, ◌<◌, Bool, true, false, List, [], Option, refl, subst, arith}
use Rattle.std.proofs.lemmas.List.Elements.{All-nil}
use Rattle.std.specs.Bool.{OnFalse}
use Rattle.eh_port.specs.Causes.{Rose}
use Rattle.thumb_core.specs.declared.ends.End.{End}
use Rattle.thumb_core.specs.declared.ends.End.TheVariants.{Exit, Terminate, Trap, Budget, ReadFault, WriteFault}
use Rattle.run_gates.specs.Ends.{is_fault}
use Rattle.eh_gates.specs.State.{State}
use Rattle.frame_check.specs.Accepts.{Accepted}
use Rattle.sim_machines.specs.Checked.{program_of}
use Rattle.sim_machines.specs.Activations.{recorded_start}
use Rattle.sim_relation.specs.Stands.{StandsFor}
use Rattle.eh_machine.specs.Follows.{StartsAlike, FollowsRun}
use Rattle.test_machine.specs.Stood.{StandsAfter}

no_fault : (end : End) → (end ≡ ReadFault → Rose 0 0) → (end ≡ WriteFault → Rose 0 0) → is_fault end ≡ false
no_fault (Exit number) read write = refl
no_fault (Terminate cause) read write = refl
no_fault (Trap kind value pc) read write = refl
no_fault Budget read write = refl
no_fault ReadFault read write = absurd (let r : Rose 0 0 = read refl in omega arith)
no_fault WriteFault read write = absurd (let r : Rose 0 0 = write refl in omega arith)

at_false : (b : Bool) (P : Type 0) → b ≡ false → OnFalse b P → P
at_false true P e p = absurd cc
at_false false P e p = p

module _ (x : Accepted) (n : ℕ) (old new : State) (end : End) (unspent : ℕ) (left before now : Option (List ℕ)) (starts : StartsAlike x old)
    (read : end ≡ ReadFault → Rose 0 0) (write : end ≡ WriteFault → Rose 0 0) where
  stood_at : FollowsRun x n old [] end new unspent left before now → StandsAfter x n new
  stood_at follows =
      let w = follows (All-nil (λ (b : ℕ). b < 256)) (recorded_start (program_of x)) starts in
      subst (StandsFor x new) (at_false (is_fault end) _ (no_fault end read write) w.runs.state_is) w.stands

  pub stood_by : (bytes : List ℕ) → bytes ≡ [] → FollowsRun x n old bytes end new unspent left before now → StandsAfter x n new
  stood_by bytes none follows = stood_at (subst (λ (xs : List ℕ). FollowsRun x n old xs end new unspent left before now) none follows)
