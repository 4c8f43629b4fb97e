-- The report of `force` for an accepted image (docs/guide/walks-and-threads.md, "Forced unwinding"): the run goes on to a site, is unwound by
-- force there, and goes on.
use Rattle.std.specs.Prelude.{ℕ, ◌≡◌, ◌++◌, ◌-◌, List, codes, unwrap_or, Result, Ok, Err}
use Rattle.elf_image.specs.Image.{Image, symbol_in}
use Rattle.eh_bus.specs.Segment.{AreBytes}
use Rattle.eh_gates.specs.State.{State}
use Rattle.eh_trace.specs.Trace.{Trace}
use Rattle.run_events.specs.Runs.{Machine, Ran, machine_run}
use Rattle.frame_check.specs.Accepts.{Accepted}
use Rattle.thumb_core.specs.declared.ends.End.{End}
use Rattle.thumb_core.specs.declared.ends.End.TheVariants.{Exit, Terminate, Trap, Budget, ReadFault, WriteFault}
use Rattle.sim_machines.specs.ActivationMachine.{recorded_machine}
use Rattle.sim_machines.specs.Activations.{Recorded}
use Rattle.sim_machines.specs.Checked.{program_of}
use Rattle.sim_machines.specs.Machine.{machine_of}
use Rattle.thread_laws.specs.sim_relation.Stands.{StandsFor}
use Rattle.run_events.specs.Laws.{SameRan}
use Rattle.eh_walk.specs.Forced.{ForceResult, RecordedForced, force_outcome, recorded_force_outcome}
use Rattle.eh_walk.specs.Laws.{OnwardFor}
use Rattle.eh_walk.specs.Reaching.{Onward}
use Rattle.eh_walk.specs.declared.stopping.ForceFault.{ForceFault}
use Rattle.eh_walk.specs.declared.stopping.ForceFault.TheVariants.{NotSite, NoFrame, InsideCleanup, NoStop, BadTables, BadType, PoolFull}
use Rattle.cmd_perform.specs.BothRuns.{bytes_events, recorded_events}
use Rattle.cmd_input.specs.Loading.{Report, Closing}
use Rattle.cmd_perform.specs.RunReport.{run_report, trace_section}
use Rattle.cmd_lines.specs.Text.{end_line}
use Rattle.cmd_perform.specs.WalkReport.{bytes_to_site, recorded_to_site}
use Rattle.cmd_answers.specs.declared.status.TheConstants.{REFUSED, BUDGET_SPENT}
use Rattle.cmd_input.specs.declared.words.TheConstants.{MOST_INSTRUCTIONS}

-- the type that is thrown: that of int, or 0 if the image has no symbol of it
abbrev pub forced_type : Image → ℕ
forced_type image = unwrap_or (symbol_in image (codes "_ZTIi")) 0

-- ---- a refusal

-- the last line, and the status; a run that is at no site is reported as one whose budget is spent
abbrev pub force_line : ForceFault → List ℕ
force_line NotSite = end_line Budget
force_line NoFrame = codes "-- force NoFrame\n"
force_line InsideCleanup = codes "-- force InsideCleanup\n"
force_line NoStop = codes "-- force NoStop\n"
force_line BadTables = codes "-- force BadTables\n"
force_line BadType = codes "-- force BadType\n"
force_line PoolFull = codes "-- force PoolFull\n"

abbrev pub force_status : ForceFault → ℕ
force_status NotSite = BUDGET_SPENT
force_status NoFrame = REFUSED
force_status InsideCleanup = REFUSED
force_status NoStop = REFUSED
force_status BadTables = REFUSED
force_status BadType = REFUSED
force_status PoolFull = REFUSED

abbrev pub force_fault_report : List ℕ → ForceFault → Closing
force_fault_report head fault = record { text = head ++ force_line fault; status = force_status fault }

-- ---- any machine

-- from the state after a forced unwinding, at so many events, on until MOST_INSTRUCTIONS were done in all; or why it wasn't unwound
abbrev pub report_from_forced : {S : Type 0} → (S → Trace) → Machine S End → Accepted → ℕ → List ℕ → Result (Unit {0}) ForceFault × S → Report
report_from_forced events machine a done input (Ok u, s) = run_report events a (machine_run machine (MOST_INSTRUCTIONS - done) s input)
report_from_forced events machine a done input (Err fault, s) = record {
  text = (force_fault_report (trace_section a (events s)) fault).text;
  status = (force_fault_report (trace_section a (events s)) fault).status;
  left = input;
}

-- what was written before comes first
abbrev pub with_text_before : List ℕ → Report → Report
with_text_before bytes r = record { text = bytes ++ r.text; status = r.status; left = r.left }

-- by how the run to the site ended; if an event ended it earlier, it is reported as `run` reports it
abbrev pub by_site_end : {S : Type 0} → (S → Trace) → Machine S End → (S → Result (Unit {0}) ForceFault × S) → Accepted → Ran (Onward S) End → End → Report
by_site_end events machine force a ran Budget = with_text_before ran.text (report_from_forced events machine a ran.state.done ran.left (force ran.state.state))
by_site_end events machine force a ran (Exit number) = run_report (λ o. events o.state) a ran
by_site_end events machine force a ran (Terminate cause) = run_report (λ o. events o.state) a ran
by_site_end events machine force a ran (Trap kind value pc) = run_report (λ o. events o.state) a ran
by_site_end events machine force a ran ReadFault = run_report (λ o. events o.state) a ran
by_site_end events machine force a ran WriteFault = run_report (λ o. events o.state) a ran

abbrev pub force_report : {S : Type 0} → (S → Trace) → Machine S End → (S → Result (Unit {0}) ForceFault × S) → Accepted → Ran (Onward S) End → Report
force_report events machine force a ran = by_site_end events machine force a ran ran.end

-- ---- over bytes, and with recorded activations

abbrev pub force_bytes : ℕ → Accepted → State → ForceResult
force_bytes number a s = force_outcome (program_of a) number (forced_type a.image) s

abbrev pub force_activations : ℕ → Accepted → Recorded → RecordedForced
force_activations number a s = recorded_force_outcome (program_of a) number (forced_type a.image) s

-- .. from where a run over bytes stopped, after so many events
abbrev pub bytes_from_site : ℕ → Accepted → ℕ → State → List ℕ → Report
bytes_from_site number a done s input = report_from_forced bytes_events (machine_of (program_of a)) a done input (force_bytes number a s)

-- .. from the start, for the machine over bytes
unfoldable pub accepted_force : ℕ → ℕ → Accepted → List ℕ → Report
accepted_force number budget a input = force_report bytes_events (machine_of (program_of a)) (force_bytes number a) a (bytes_to_site budget a input)

-- .. and for the machine with recorded activations: the frames and landings are those of the activations
unfoldable pub recorded_force_report : ℕ → ℕ → Accepted → List ℕ → Report
recorded_force_report number budget a input =
    force_report recorded_events (recorded_machine (program_of a)) (force_activations number a) a (recorded_to_site budget a input)

-- r is the report of a forced unwinding to the frame of a number, over bytes; and, if the numbers of the input are bytes, with recorded
-- activations too
pub record ForcesAccepted (number budget : ℕ) (a : Accepted) (input : List ℕ) (r : Report) : Type 0 where
  pub is : r ≡ accepted_force number budget a input
  pub recorded : AreBytes input → r ≡ recorded_force_report number budget a input

-- ---- what is refused

-- a refusal with status REFUSED; being at no site isn't one
abbrev pub IsRefusal : ForceFault → Type 0
IsRefusal NotSite = ⊥
IsRefusal NoFrame = Unit {0}
IsRefusal InsideCleanup = Unit {0}
IsRefusal NoStop = Unit {0}
IsRefusal BadTables = Unit {0}
IsRefusal BadType = Unit {0}
IsRefusal PoolFull = Unit {0}

abbrev pub IsRefusedForcing : Result (Unit {0}) ForceFault → Type 0
IsRefusedForcing (Ok u) = ⊥
IsRefusedForcing (Err fault) = IsRefusal fault

-- the run of this input reaches a site, and the unwinding is refused there
pub record IsUnforced (number budget : ℕ) (a : Accepted) (input : List ℕ) : Type 0 where
  pub comes : (bytes_to_site budget a input).end ≡ Budget
  pub refused : IsRefusedForcing (force_bytes number a (bytes_to_site budget a input).state.state).0

-- ---- what holds of both

-- On an input of bytes both runs to a site do the same. Forced unwinding does the same from their states and leaves states that stand for
-- each other, and both go on alike.
pub record ForceSame (number budget : ℕ) (a : Accepted) (input : List ℕ) : Type 0 where
  pub reaches : SameRan (OnwardFor a) (bytes_to_site budget a input) (recorded_to_site budget a input)
  pub answer : (force_bytes number a (bytes_to_site budget a input).state.state).0 ≡ (force_activations number a (recorded_to_site budget a input).state.state).0
  pub events :
      bytes_events (force_bytes number a (bytes_to_site budget a input).state.state).1
      ≡ recorded_events (force_activations number a (recorded_to_site budget a input).state.state).1
  pub goes : (n : ℕ)
      → SameRan (StandsFor a) (machine_run (machine_of (program_of a)) n (force_bytes number a (bytes_to_site budget a input).state.state).1 (bytes_to_site budget a input).left)
      (machine_run (recorded_machine (program_of a)) n (force_activations number a (recorded_to_site budget a input).state.state).1 (recorded_to_site budget a input).left)

abbrev pub ForcesSame : Accepted → Type 0
ForcesSame a = (number budget : ℕ) (input : List ℕ) → AreBytes input → ForceSame number budget a input
