-- The report of `run` for an accepted image, which runs on the machine that unwinds.
use Rattle.std.specs.Prelude.{ℕ, ◌≡◌, ◌++◌, List}
use Rattle.eh_bus.specs.Segment.{AreBytes}
use Rattle.eh_trace.specs.Text.{trace_text}
use Rattle.eh_trace.specs.Trace.{Trace}
use Rattle.eh_types.specs.Graph.{name_of}
use Rattle.run_events.specs.Runs.{Ran}
use Rattle.frame_check.specs.Accepts.{Accepted}
use Rattle.thumb_core.specs.declared.ends.End.{End}
use Rattle.cmd_perform.specs.BothRuns.{bytes_run, recorded_run, bytes_events, recorded_events, RefusesStores}
use Rattle.cmd_input.specs.Loading.{Report, ran_report}
use Rattle.cmd_perform.specs.Text.{trace_head}

-- what follows the guest's bytes: the trace of these events
abbrev pub trace_section : Accepted → Trace → List ℕ
trace_section a events = trace_head ++ trace_text a.image (name_of a.types) events

-- the report of a run of an accepted image, given the events of the machine's last state
abbrev pub run_report : {S : Type 0} → (S → Trace) → Accepted → Ran S End → Report
run_report events a ran = ran_report (λ s. trace_section a (events s)) ran

-- .. from the start, by the machine over bytes
unfoldable pub accepted_report : ℕ → Accepted → List ℕ → Report
accepted_report budget a input = run_report bytes_events a (bytes_run budget a input)

-- .. and by the machine with recorded activations: returns go to their recorded callers, and throws go over the live activations
unfoldable pub recorded_report : ℕ → Accepted → List ℕ → Report
recorded_report budget a input = run_report recorded_events a (recorded_run budget a input)

-- r is the report of the run of an accepted image, over bytes; and, if the numbers of the input are bytes, with recorded activations too,
-- and then no store reaches a slot of a live activation
pub record RunsAccepted (budget : ℕ) (a : Accepted) (input : List ℕ) (r : Report) : Type 0 where
  pub is : r ≡ accepted_report budget a input
  pub recorded : AreBytes input → r ≡ recorded_report budget a input
  pub guarded : AreBytes input → RefusesStores a input
