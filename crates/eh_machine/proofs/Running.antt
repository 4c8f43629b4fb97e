-- A run of the machine, from the events that its loop has done.
use Rattle.std.proofs.Common.{◌≡◌, ℕ, ◌-◌, ◌<◌, List, Option, IfSome, refl}
use Rattle.run_events.specs.Runs.{Runs}
use Rattle.run_events.proofs.Progress.{Progress, goes_on, ends, spent}
use Rattle.thumb_core.specs.declared.ends.End.{End}
use Rattle.thumb_core.specs.declared.ends.End.TheVariants.{Budget}
use Rattle.eh_gates.specs.declared.state.Turned.TheVariants.{Went, Ended}
use Rattle.eh_gates.specs.State.{State}
use Rattle.sim_machines.specs.Program.{Program}
use Rattle.sim_machines.specs.Machine.{machine_of}
use Rattle.eh_machine.specs.Turns.{TurnedOnce}

module _ (p : Program) (n0 : ℕ) (state0 : State) where
  pub run_goes_on : (left0 : Option (List ℕ)) (n : ℕ) (state state' : State) (left left' before mid now : Option (List ℕ)) → 0 < n
      → IfSome left0 (λ bytes. Progress State End (machine_of p) n0 state0 bytes n state left before mid)
      → IfSome left (λ bytes. TurnedOnce p state bytes Went state' left' mid now)
      → IfSome left0 (λ bytes. Progress State End (machine_of p) n0 state0 bytes (n - 1) state' left' before now)
  run_goes_on left0 n state state' left left' before mid now h progress turned =
      goes_on State End (machine_of p) n0 state0 left0 n state state' left left' before mid now h progress turned

  pub run_ends : (left0 : Option (List ℕ)) (n : ℕ) (state state' : State) (left left' before mid now : Option (List ℕ)) (end : End) → 0 < n
      → IfSome left0 (λ bytes. Progress State End (machine_of p) n0 state0 bytes n state left before mid)
      → IfSome left (λ bytes. TurnedOnce p state bytes (Ended end) state' left' mid now)
      → IfSome left0 (λ bytes. Runs (machine_of p) n0 state0 bytes end state' (n - 1) left' before now)
  run_ends left0 n state state' left left' before mid now end h progress turned =
      ends State End (machine_of p) n0 state0 left0 n state state' left left' before mid now end h progress turned

pub run_spent : (p0 : Program) (n0 : ℕ) (state0 : State) (left0 : Option (List ℕ)) (n : ℕ) (state : State) (left before now : Option (List ℕ)) → n ≡ 0
    → IfSome left0 (λ bytes. Progress State End (machine_of p0) n0 state0 bytes n state left before now)
    → IfSome left0 (λ bytes. Runs (machine_of p0) n0 state0 bytes Budget state n left before now)
run_spent p0 n0 state0 left0 n state left before now none progress = spent State End (machine_of p0) n0 state0 left0 n state left before now none refl progress
