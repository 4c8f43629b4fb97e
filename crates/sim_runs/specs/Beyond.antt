-- No event changes the guarded words beyond the running stack.
use Rattle.std.specs.Prelude.{◌≡◌, ℕ, List}
use Rattle.run_events.specs.Runs.{Event, Goes, Ends}
use Rattle.thumb_core.specs.declared.ends.End.{End}
use Rattle.sim_machines.specs.Activations.{Recorded}
use Rattle.sim_machines.specs.frame_check.Accepts.{Accepted}
use Rattle.sim_machines.specs.ActivationMachine.{recorded_event}
use Rattle.sim_machines.specs.Checked.{program_of}
use Rattle.sim_accesses.specs.sim_relation.Stands.{Keeps, IsProgram}
use Rattle.sim_runs.specs.Turned.{AreBytes}

abbrev pub SameBeyond : Recorded → Event Recorded End → Type 0
SameBeyond s (Goes t text left) = t.beyond ≡ s.beyond
SameBeyond s (Ends end t) = t.beyond ≡ s.beyond

abbrev pub BeyondStays : Type 0
BeyondStays = (x : Accepted) (s : Recorded) (input : List ℕ) → IsProgram x → Keeps x s → AreBytes input → SameBeyond s (recorded_event (program_of x) s input)
