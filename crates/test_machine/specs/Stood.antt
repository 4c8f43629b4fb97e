-- A run of so many events from the start, without input, over bytes and with recorded activations.
use Rattle.std.specs.Prelude.{ℕ, []}
use Rattle.run_events.specs.Runs.{machine_run}
use Rattle.eh_gates.specs.State.{State}
use Rattle.frame_check.specs.Accepts.{Accepted}
use Rattle.sim_machines.specs.Checked.{program_of}
use Rattle.sim_machines.specs.Activations.{Recorded, recorded_start}
use Rattle.sim_machines.specs.ActivationMachine.{recorded_machine}
use Rattle.sim_relation.specs.Stands.{StandsFor}

-- the state that the run with recorded activations reaches
abbrev pub recorded_state : Accepted → ℕ → Recorded
recorded_state x n = (machine_run (recorded_machine (program_of x)) n (recorded_start (program_of x)) []).state

-- this state stands for it
abbrev pub StandsAfter : Accepted → ℕ → State → Type 0
StandsAfter x n b = StandsFor x b (recorded_state x n)
