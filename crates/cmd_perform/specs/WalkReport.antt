-- The report of `walk` for an accepted image (docs/guide/walks-and-threads.md): the run goes on to a site, and the frames from there follow its trace.
use Rattle.std.specs.Prelude.{ℕ, ◌≡◌, ◌++◌, List, Option}
use Rattle.eh_bus.specs.Segment.{AreBytes}
use Rattle.eh_gates.specs.State.{State}
use Rattle.eh_phase.specs.Phases.{Frames}
use Rattle.eh_trace.specs.Trace.{Trace}
use Rattle.run_events.specs.Laws.{SameRan}
use Rattle.run_events.specs.Runs.{Ran}
use Rattle.frame_check.specs.Accepts.{Accepted}
use Rattle.thumb_core.specs.declared.ends.End.{End}
use Rattle.thumb_core.specs.declared.ends.End.TheVariants.{Exit, Terminate, Trap, Budget, ReadFault, WriteFault}
use Rattle.sim_machines.specs.Activations.{Recorded, recorded_start}
use Rattle.sim_machines.specs.Checked.{program_of}
use Rattle.sim_machines.specs.Start.{start_of}
use Rattle.eh_walk.specs.Laws.{SameWalks}
use Rattle.eh_walk.specs.Reaching.{Onward, run_to_site, recorded_run_to_site}
use Rattle.eh_walk.specs.Text.{walk_text}
use Rattle.eh_walk.specs.Walks.{walk_frames, end_of_walk, walk_of, recorded_walk}
use Rattle.eh_walk.specs.declared.walk.WalkEnd.{WalkEnd}
use Rattle.eh_walk.specs.declared.walk.WalkEnd.TheVariants.{Root, NoUnwind, Most, NotSite}
use Rattle.eh_walk.specs.declared.walk.WalkFrame.{WalkFrame}
use Rattle.cmd_perform.specs.BothRuns.{bytes_events, recorded_events, HaveSameEvents}
use Rattle.cmd_input.specs.Loading.{Report, Closing, closing_of, closed_report}
use Rattle.cmd_perform.specs.RunReport.{trace_section}
use Rattle.cmd_answers.specs.declared.status.TheConstants.{DONE}
use Rattle.cmd_perform.specs.declared.walk.TheConstants.{MOST_FRAMES}

-- ---- what follows the guest's bytes, and the status

-- for a walk with these frames: the trace, and a line for each of them
abbrev pub frames_report : Accepted → Trace → List WalkFrame → Closing
frames_report a events frames = record { text = trace_section a events ++ walk_text a.image frames; status = DONE }

-- .. by why there is no further frame; at no site it is what `run` says when the budget is spent
abbrev pub frames_report_by : Accepted → Trace → List WalkFrame → WalkEnd → Closing
frames_report_by a events frames NotSite = closing_of (trace_section a events) Budget
frames_report_by a events frames Root = frames_report a events frames
frames_report_by a events frames NoUnwind = frames_report a events frames
frames_report_by a events frames Most = frames_report a events frames

-- for the walk from where a run stopped, by how the run ended; if an event ended it earlier, it is reported as `run` reports it
abbrev pub walk_closing : Accepted → Trace → Option Frames → End → Closing
walk_closing a events walk Budget = frames_report_by a events (walk_frames MOST_FRAMES walk) (end_of_walk MOST_FRAMES walk)
walk_closing a events walk (Exit number) = closing_of (trace_section a events) (Exit number)
walk_closing a events walk (Terminate cause) = closing_of (trace_section a events) (Terminate cause)
walk_closing a events walk (Trap kind value pc) = closing_of (trace_section a events) (Trap kind value pc)
walk_closing a events walk ReadFault = closing_of (trace_section a events) ReadFault
walk_closing a events walk WriteFault = closing_of (trace_section a events) WriteFault

-- the report of a run to a site, given the events and the walk of a state
abbrev pub walk_report : {S : Type 0} → (S → Trace) → (S → Option Frames) → Accepted → Ran (Onward S) End → Report
walk_report events walk a ran = closed_report (λ o end. walk_closing a (events o.state) (walk o.state) end) ran

-- ---- over bytes, and with recorded activations

abbrev pub bytes_walk : Accepted → State → Option Frames
bytes_walk a s = walk_of (program_of a) s.regs s.memory

abbrev pub bytes_to_site : ℕ → Accepted → List ℕ → Ran (Onward State) End
bytes_to_site budget a input = run_to_site (program_of a) budget (start_of (program_of a)) input

abbrev pub activations_walk : Accepted → Recorded → Option Frames
activations_walk a s = recorded_walk (program_of a) s

abbrev pub recorded_to_site : ℕ → Accepted → List ℕ → Ran (Onward Recorded) End
recorded_to_site budget a input = recorded_run_to_site (program_of a) budget (recorded_start (program_of a)) input

-- .. from the start, by the machine over bytes, whose frames are those that the tables give for the stack
unfoldable pub accepted_walk : ℕ → Accepted → List ℕ → Report
accepted_walk budget a input = walk_report bytes_events (bytes_walk a) a (bytes_to_site budget a input)

-- .. and by the machine with recorded activations, whose frames are the activations
unfoldable pub recorded_walk_report : ℕ → Accepted → List ℕ → Report
recorded_walk_report budget a input = walk_report recorded_events (activations_walk a) a (recorded_to_site budget a input)

-- r is the report of a walk in an accepted image, over bytes; and, if the numbers of the input are bytes, with recorded activations too
pub record WalksAccepted (budget : ℕ) (a : Accepted) (input : List ℕ) (r : Report) : Type 0 where
  pub is : r ≡ accepted_walk budget a input
  pub recorded : AreBytes input → r ≡ recorded_walk_report budget a input

-- ---- what holds of both

-- two states with the same events, and the same walks
pub record WalkAlike (a : Accepted) (o : Onward State) (u : Onward Recorded) : Type 0 where
  pub events : HaveSameEvents o.state u.state
  pub walks : SameWalks (bytes_walk a o.state) (activations_walk a u.state)

-- On an input of bytes both runs to a site have the same output, the same end and the same rest of the input, and leave such states.
abbrev pub WalkSame : Accepted → Type 0
WalkSame a = (budget : ℕ) (input : List ℕ) → AreBytes input → SameRan (WalkAlike a) (bytes_to_site budget a input) (recorded_to_site budget a input)
