-- The reports of a run of an accepted image, from what the machine does.
use Rattle.std.proofs.Common.{◌≡◌, ℕ, List, Result, refl, sym, subst}
use Rattle.eh_gates.specs.State.{State}
use Rattle.sim_machines.specs.Activations.{Recorded}
use Rattle.run_events.specs.Laws.{SameRan}
use Rattle.run_events.specs.Runs.{Ran}
use Rattle.frame_check.specs.Accepts.{Accepted}
use Rattle.thumb_core.specs.declared.ends.End.{End}
use Rattle.cmd_perform.specs.BothRuns.{bytes_run, recorded_run, bytes_events, recorded_events, HaveSameEvents, RunSame, SlotsStay}
use Rattle.cmd_perform.specs.RunReport.{RunsAccepted, accepted_report, recorded_report, run_report}
use Rattle.cmd_perform.specs.TaskReport.{DoesTask, TaskReports, TaskPins, PinsTask}
use Rattle.cmd_perform.specs.Yields.{Streams, YieldsBy}
use Rattle.cmd_input.specs.declared.words.Request.{Request}
use Rattle.cmd_input.specs.declared.words.Task.{Task}
use Rattle.cmd_answers.specs.declared.stop.Stop.{Stop}

-- the report of a run over bytes is that of the run with recorded activations
same_report : (a : Accepted) (one : Ran State End) (two : Ran Recorded End) → SameRan HaveSameEvents one two → run_report bytes_events a one ≡ run_report recorded_events a two
same_report a one two w = rw (w.text, w.end, w.left, w.state) refl

pub run_accepted : (budget : ℕ) (a : Accepted) (input : List ℕ) → RunSame a → SlotsStay a → RunsAccepted budget a input (accepted_report budget a input)
unfolding accepted_report recorded_report
run_accepted budget a input same guarded = record {
  is = refl;
  recorded = λ bytes. same_report a (bytes_run budget a input) (recorded_run budget a input) (same budget input bytes);
  guarded = guarded input;
}

-- what is asked, by its task
pub does_task : (request : Request) (a : Accepted) (old new : Streams) (result : Result ℕ Stop) (task : Task) → request.task ≡ task
    → YieldsBy (TaskReports task request.budget a) (TaskPins task request.budget a) old new result → YieldsBy (DoesTask request a) (PinsTask request a) old new result
does_task request a old new result task e y = subst (λ (t : Task). YieldsBy (TaskReports t request.budget a) (TaskPins t request.budget a) old new result) (sym e) y
