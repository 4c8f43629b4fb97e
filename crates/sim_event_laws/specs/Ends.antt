-- No event ends a run by Budget: only the run itself does (docs/rules/machine.md, "An event"; docs/rules/memory.md).
use Rattle.std.specs.Prelude.{◌≡◌, ℕ, List}
use Rattle.run_events.specs.Runs.{Ends}
use Rattle.thumb_core.specs.declared.ends.End.TheVariants.{Budget}
use Rattle.run_images.specs.Start.{State as Raw}
use Rattle.run_flat.specs.Machine.{flat_event}
use Rattle.eh_gates.specs.State.{State}
use Rattle.sim_machines.specs.Program.{Program}
use Rattle.sim_machines.specs.Machine.{machine_event}
use Rattle.sim_machines.specs.Activations.{Recorded}
use Rattle.sim_machines.specs.ActivationMachine.{recorded_event}

pub record NoEventIsBudget : Type 0 where
  pub bytes : (p : Program) (s t : State) (input : List ℕ) → machine_event p s input ≡ Ends Budget t → ⊥
  pub recorded : (p : Program) (s t : Recorded) (input : List ℕ) → recorded_event p s input ≡ Ends Budget t → ⊥
  pub flat : (s t : Raw) (input : List ℕ) → flat_event s input ≡ Ends Budget t → ⊥
