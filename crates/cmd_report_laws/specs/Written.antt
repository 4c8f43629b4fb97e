-- The last lines and the statuses of reports, in letters and digits, given what the machine over bytes does and what the one with recorded
-- activations does (docs/guide/command-line.md, "Statuses", "What is written"; docs/rules/machine.md, "With recorded activations").
use Rattle.std.specs.Prelude.{◌≡◌, ◌≢◌, ◌⊎◌, ℕ, ◌+◌, ◌-◌, ◌%◌, ◌<◌, ◌≤◌, List, [], ◌∷◌, ◌++◌, All, length, codes, decimal, flat_map, unwrap_or, Option, None, Result, Ok, Err}
use Rattle.eh_word.specs.Address.{address_text}
use Rattle.run_images.specs.Start.{code_start}
use Rattle.run_flat.specs.Machine.{flat_run_result}
use Rattle.eh_bus.specs.Lists.{Has}
use Rattle.eh_bus.specs.Memory.{store}
use Rattle.eh_bus.specs.declared.fault.BusFault.TheVariants.{SavedSlot}
use Rattle.eh_port.specs.FileList.{answer_of}
use Rattle.eh_port.specs.declared.files.FileAnswer.TheVariants.{Missing, TooLong}
use Rattle.eh_gates.specs.State.{State}
use Rattle.eh_phase.specs.Phases.{Frames}
use Rattle.eh_trace.specs.Text.{trace_text, place_text}
use Rattle.eh_trace.specs.Trace.{Trace, total_of}
use Rattle.eh_trace.specs.declared.event.EventKind.TheVariants.{Throw, Rethrow, Cleanup, Catch}
use Rattle.eh_types.specs.Graph.{name_of}
use Rattle.eh_walk.specs.Forced.{force_outcome, recorded_force_outcome}
use Rattle.eh_walk.specs.Reaching.{Onward, run_to_site, recorded_run_to_site}
use Rattle.eh_walk.specs.Walks.{walk_frames, end_of_walk, walk_of, recorded_walk}
use Rattle.eh_walk.specs.declared.walk.WalkEnd.TheVariants as walk_end
use Rattle.eh_walk.specs.declared.stopping.ForceFault.{ForceFault}
use Rattle.eh_walk.specs.declared.stopping.ForceFault.TheVariants.{NotSite, NoFrame, InsideCleanup, NoStop, BadTables, BadType, PoolFull}
use Rattle.run_events.specs.Runs.{Machine, Ran, machine_run}
use Rattle.elf_image.specs.Image.{symbol_in}
use Rattle.frame_check.specs.Accepts.{Accepted}
use Rattle.sim_machines.specs.ActivationMachine.{recorded_machine}
use Rattle.sim_machines.specs.Activations.{Recorded, recorded_start, slots_of}
use Rattle.sim_machines.specs.Checked.{program_of}
use Rattle.sim_machines.specs.Machine.{machine_of}
use Rattle.sim_machines.specs.Start.{start_of}
use Rattle.cmd_perform.specs.gnu_machine.GnuMachine.{gnu_machine_of, recorded_gnu_machine}
use Rattle.thumb_core.specs.EndNames.{cause_name, kind_name}
use Rattle.thumb_core.specs.declared.ends.End.{End}
use Rattle.thumb_core.specs.declared.ends.End.TheVariants.{Exit, Terminate, Trap, Budget, ReadFault, WriteFault}
use Rattle.cmd_perform.specs.BuildReport.{plain_report}
use Rattle.cmd_perform.specs.CheckReport.{ChecksAccepted}
use Rattle.cmd_input.specs.Finding.{file_bytes}
use Rattle.cmd_perform.specs.FlatReport.{code_report}
use Rattle.cmd_perform.specs.ForceReport.{ForcesAccepted}
use Rattle.cmd_perform.specs.GenerateReport.{CountsAccepted}
use Rattle.cmd_perform.specs.GnuReport.{GnuAccepted}
use Rattle.cmd_input.specs.Loading.{Report}
use Rattle.cmd_perform.specs.Report.{Reports}
use Rattle.cmd_perform.specs.RunReport.{RunsAccepted}
use Rattle.cmd_perform.specs.ThreadsReport.{ThreadsAccepted}
use Rattle.cmd_perform.specs.WalkReport.{WalksAccepted}
use Rattle.cmd_perform.specs.thread_laws.RecordedThreads.{RecordedPlace, threads_at_start, recorded_schedule_run}
use Rattle.cmd_perform.specs.eh_threads.Elements.{joint_over}
use Rattle.cmd_perform.specs.eh_threads.Schedules.{SchedulePoint, schedule_run}
use Rattle.thread_schedule.specs.Tags.{tag_text}

-- ---- the machines

-- A machine on an accepted image: how it runs, from which state, and the events of a state; where it stops when it goes on to a site; what
-- a walk gives there; and what a forced unwinding to the frame of a number gives and leaves.
pub record OnImage (S : Type 0) : Type 0 where
  pub machine : Machine S End
  pub start : S
  pub events : S → Trace
  pub to_site : ℕ → List ℕ → Ran (Onward S) End
  pub walk : S → Option Frames
  pub unwound : ℕ → S → Result (Unit {0}) ForceFault × S

-- what a forced unwinding throws: int, by the name of its type, or type 0 if the image has none
abbrev pub force_type_address : Accepted → ℕ
force_type_address a = unwrap_or (symbol_in a.image (codes "_ZTIi")) 0

-- the machine over bytes
abbrev pub over_bytes : Accepted → OnImage State
over_bytes a = record {
  machine = machine_of (program_of a);
  start = start_of (program_of a);
  events = λ s. s.events;
  to_site = λ budget input. run_to_site (program_of a) budget (start_of (program_of a)) input;
  walk = λ s. walk_of (program_of a) s.regs s.memory;
  unwound = λ number s. force_outcome (program_of a) number (force_type_address a) s;
}

-- the machine with recorded activations
abbrev pub with_activations : Accepted → OnImage Recorded
with_activations a = record {
  machine = recorded_machine (program_of a);
  start = recorded_start (program_of a);
  events = λ s. s.events;
  to_site = λ budget input. recorded_run_to_site (program_of a) budget (recorded_start (program_of a)) input;
  walk = λ s. recorded_walk (program_of a) s;
  unwound = λ number s. recorded_force_outcome (program_of a) number (force_type_address a) s;
}

-- each number of an input is a byte
abbrev pub IsOfBytes : List ℕ → Type 0
IsOfBytes input = All (λ (b : ℕ). b < 256) input

-- ---- runs

-- the last line of a run with this end, and the status; a failed read or write has no report
abbrev pub EndsSo : End → List ℕ → ℕ → Type 0
EndsSo (Exit number) line status = (line ≡ codes "-- exit " ++ decimal number ++ codes "\n") × ((number ≡ 0 → status ≡ 0) × (number ≢ 0 → status ≡ 1))
EndsSo (Terminate cause) line status = (line ≡ codes "-- terminate " ++ cause_name cause ++ codes "\n") × (status ≡ 4)
EndsSo (Trap kind value pc) line status =
    (line ≡ codes "-- trap " ++ kind_name kind ++ codes " " ++ address_text value ++ codes " at " ++ address_text pc ++ codes "\n") × (status ≡ 5)
EndsSo Budget line status = (line ≡ codes "-- budget\n") × (status ≡ 6)
EndsSo ReadFault line status = Unit {0}
EndsSo WriteFault line status = Unit {0}

-- a head follows the bytes that a run wrote, and then its last line; the rest of the input is left
pub record RunEnds {S : Type 0} (ran : Ran S End) (head : List ℕ) (r : Report) : Type 0 where
  pub line : List ℕ
  pub ends : EndsSo ran.end line r.status
  pub text : r.text ≡ ran.text ++ (head ++ line)
  pub left : r.left ≡ ran.left

-- the head of a run of an image: the trace of its events
abbrev pub trace_of : Accepted → Trace → List ℕ
trace_of a events = codes "\n-- trace\n" ++ trace_text a.image (name_of a.types) events

-- .. from the start
abbrev pub IsRun : {S : Type 0} → Accepted → OnImage S → ℕ → List ℕ → Report → Type 0
IsRun a x budget input r = RunEnds (machine_run x.machine budget x.start input) (trace_of a (x.events (machine_run x.machine budget x.start input).state)) r

-- .. of a walk, given what is found where the run stopped: the frames after the trace, with status 0. At no site, and if the run ended
-- before, it is as for `run`.
pub record WalkEnds {S : Type 0} (a : Accepted) (x : OnImage S) (ran : Ran (Onward S) End) (r : Report) : Type 0 where
  pub before : ran.end ≢ Budget → RunEnds ran (trace_of a (x.events ran.state.state)) r
  pub nowhere : ran.end ≡ Budget → end_of_walk 65536 (x.walk ran.state.state) ≡ walk_end.NotSite → RunEnds ran (trace_of a (x.events ran.state.state)) r
  pub frames :
      ran.end ≡ Budget → end_of_walk 65536 (x.walk ran.state.state) ≢ walk_end.NotSite
      → r
      ≡ record {
        text =
            ran.text
            ++ (
            trace_of a (x.events ran.state.state)
            ++ (
            codes "-- frames\n"
            ++ flat_map (λ f. codes "frame " ++ place_text a.image f.site ++ codes " sp " ++ address_text f.sp ++ codes "\n") (walk_frames 65536 (x.walk ran.state.state))
            ++ codes "-- walked\n"
            )
            );
        status = 0;
        left = ran.left;
      }

abbrev pub IsWalk : {S : Type 0} → Accepted → OnImage S → ℕ → List ℕ → Report → Type 0
IsWalk a x budget input r = WalkEnds a x (x.to_site budget input) r

-- .. of a forced unwinding, given where its run to a site stopped. A run that ended before is as for `run`. At a site the unwinding is
-- refused by a name, with status 3 ..
abbrev pub IsRefusedAs : {S : Type 0} → ℕ → Accepted → OnImage S → Ran (Onward S) End → Report → ForceFault → List ℕ → Type 0
IsRefusedAs number a x ran r fault line =
    ran.end ≡ Budget → (x.unwound number ran.state.state).0 ≡ Err fault
    → r ≡ record { text = ran.text ++ (trace_of a (x.events (x.unwound number ran.state.state).1) ++ line); status = 3; left = ran.left }

-- .. or the run goes on from what it leaves until 1,000,000,000 events were done in all, and ends as for `run`, after the bytes that were
-- written before
pub record ForceEnds {S : Type 0} (number : ℕ) (a : Accepted) (x : OnImage S) (ran : Ran (Onward S) End) (r : Report) : Type 0 where
  pub before : ran.end ≢ Budget → RunEnds ran (trace_of a (x.events ran.state.state)) r
  pub nowhere : ran.end ≡ Budget → (x.unwound number ran.state.state).0 ≡ Err NotSite
      → r ≡ record { text = ran.text ++ (trace_of a (x.events (x.unwound number ran.state.state).1) ++ codes "-- budget\n"); status = 6; left = ran.left }
  pub no_frame : IsRefusedAs number a x ran r NoFrame (codes "-- force NoFrame\n")
  pub inside_cleanup : IsRefusedAs number a x ran r InsideCleanup (codes "-- force InsideCleanup\n")
  pub no_stop : IsRefusedAs number a x ran r NoStop (codes "-- force NoStop\n")
  pub bad_tables : IsRefusedAs number a x ran r BadTables (codes "-- force BadTables\n")
  pub bad_type : IsRefusedAs number a x ran r BadType (codes "-- force BadType\n")
  pub pool_full : IsRefusedAs number a x ran r PoolFull (codes "-- force PoolFull\n")
  pub unwound : ran.end ≡ Budget → (x.unwound number ran.state.state).0 ≡ Ok tt → (on : Ran S End)
      → on ≡ machine_run x.machine (1000000000 - ran.state.done) (x.unwound number ran.state.state).1 ran.left
      → RunEnds (record on { text = ran.text ++ on.text }) (trace_of a (x.events on.state)) r

abbrev pub IsForce : {S : Type 0} → ℕ → Accepted → OnImage S → ℕ → List ℕ → Report → Type 0
IsForce number a x budget input r = ForceEnds number a x (x.to_site budget input) r

-- .. of a run that gives landing pads what GNU code expects, given the filters of catches: over bytes
abbrev pub gnu_run_result : Accepted → List (ℕ × ℕ) → ℕ → List ℕ → Ran State End
gnu_run_result a filters budget input = machine_run (gnu_machine_of (program_of a) filters) budget (start_of (program_of a)) input

abbrev pub IsGnu : Accepted → List (ℕ × ℕ) → ℕ → List ℕ → Report → Type 0
IsGnu a filters budget input r = RunEnds (gnu_run_result a filters budget input) (trace_of a (gnu_run_result a filters budget input).state.events) r

-- .. and with recorded activations
abbrev pub recorded_gnu_run_result : Accepted → List (ℕ × ℕ) → ℕ → List ℕ → Ran Recorded End
recorded_gnu_run_result a filters budget input = machine_run (recorded_gnu_machine (program_of a) filters) budget (recorded_start (program_of a)) input

abbrev pub IsRecordedGnu : Accepted → List (ℕ × ℕ) → ℕ → List ℕ → Report → Type 0
IsRecordedGnu a filters budget input r = RunEnds (recorded_gnu_run_result a filters budget input) (trace_of a (recorded_gnu_run_result a filters budget input).state.events) r

-- .. of a run of threads: the trace, each line with the number of its thread before it
abbrev pub threads_of : Accepted → Trace → List ℕ → List ℕ
threads_of a events tags = codes "\n-- trace\n" ++ tag_text tags (trace_text a.image (name_of a.types) events)

-- from the start, over bytes ..
abbrev pub threads_run_result : Accepted → List ℕ → ℕ → List ℕ → Ran SchedulePoint End
threads_run_result a digits budget input = schedule_run (program_of a) digits budget (joint_over (start_of (program_of a))) input

abbrev pub IsThreads : Accepted → List ℕ → ℕ → List ℕ → Report → Type 0
IsThreads a digits budget input r =
    RunEnds (threads_run_result a digits budget input) (threads_of a (threads_run_result a digits budget input).state.joint.events (threads_run_result a digits budget input).state.joint.tags) r

-- .. and with recorded activations
abbrev pub recorded_threads_run_result : Accepted → List ℕ → ℕ → List ℕ → Ran RecordedPlace End
recorded_threads_run_result a digits budget input = recorded_schedule_run (program_of a) digits budget (threads_at_start (program_of a)) input

abbrev pub IsRecordedThreads : Accepted → List ℕ → ℕ → List ℕ → Report → Type 0
IsRecordedThreads a digits budget input r =
    RunEnds (recorded_threads_run_result a digits budget input)
    (threads_of a (recorded_threads_run_result a digits budget input).state.threads.events (recorded_threads_run_result a digits budget input).state.threads.tags) r

-- .. of a generated program, a line each: the number of functions; and the numbers of throws and rethrows together, of cleanups and of
-- handlers
abbrev pub counts_of : ℕ → Trace → List ℕ
counts_of functions t =
    (codes "functions " ++ decimal functions ++ codes "\n") ++ (codes "throws " ++ decimal (total_of Throw t + total_of Rethrow t) ++ codes "\n")
    ++ (codes "cleanups " ++ decimal (total_of Cleanup t) ++ codes "\n") ++ (codes "catches " ++ decimal (total_of Catch t) ++ codes "\n")

pub record CountEnds {S : Type 0} (a : Accepted) (x : OnImage S) (ran : Ran S End) (input : List ℕ) (r : Report) : Type 0 where
  pub line : List ℕ
  pub ends : EndsSo ran.end line r.status
  pub text : r.text ≡ counts_of (length a.image.functions) (x.events ran.state) ++ line
  pub left : r.left ≡ input

-- .. after 1,000,000,000 events at most, without input
abbrev pub IsCount : {S : Type 0} → Accepted → OnImage S → List ℕ → Report → Type 0
IsCount a x input r = CountEnds a x (machine_run x.machine 1000000000 x.start []) input r

-- ---- stores

abbrev pub bytes_at : Accepted → ℕ → List ℕ → State
bytes_at a count input = (machine_run (machine_of (program_of a)) count (start_of (program_of a)) input).state

abbrev pub recorded_state_at : Accepted → ℕ → List ℕ → Recorded
recorded_state_at a count input = (machine_run (recorded_machine (program_of a)) count (recorded_start (program_of a)) input).state

-- In every state of a run, an aligned store of 1, 2 or 4 bytes to a saved word of a live activation is refused with the word's address, and
-- stores nothing.
abbrev pub RefusesToStore : Accepted → List ℕ → Type 0
RefusesToStore a input =
    (count width at value slot : ℕ) → ((width ≡ 1) ⊎ ((width ≡ 2) ⊎ (width ≡ 4))) → at % width ≡ 0
    → Has (slots_of ((recorded_state_at a count input).first ∷ (recorded_state_at a count input).outer)) slot → slot ≤ at → at < slot + 4
    → store width (bytes_at a count input).memory at value ≡ (Err (SavedSlot slot), (bytes_at a count input).memory)

-- ---- all reports

pub record ReportsAreWritten : Type 0 where
  pub run : (budget : ℕ) (a : Accepted) (input : List ℕ) (r : Report) → RunsAccepted budget a input r → IsRun a (over_bytes a) budget input r
  pub walk : (budget : ℕ) (a : Accepted) (input : List ℕ) (r : Report) → WalksAccepted budget a input r → IsWalk a (over_bytes a) budget input r
  pub force : (number budget : ℕ) (a : Accepted) (input : List ℕ) (r : Report) → ForcesAccepted number budget a input r → IsForce number a (over_bytes a) budget input r
  pub threads : (digits : List ℕ) (budget : ℕ) (a : Accepted) (input : List ℕ) (r : Report) → ThreadsAccepted digits budget a input r → IsThreads a digits budget input r
  pub gnu : (filters : List (ℕ × ℕ)) (budget : ℕ) (a : Accepted) (input : List ℕ) (r : Report) → GnuAccepted filters budget a input r → IsGnu a filters budget input r
  pub gen : (a : Accepted) (input : List ℕ) (r : Report) → CountsAccepted a input r → IsCount a (over_bytes a) input r
  -- .. and with recorded activations, on an input of bytes
  pub run_recorded : (budget : ℕ) (a : Accepted) (input : List ℕ) (r : Report) → RunsAccepted budget a input r → IsOfBytes input → IsRun a (with_activations a) budget input r
  pub walk_recorded : (budget : ℕ) (a : Accepted) (input : List ℕ) (r : Report) → WalksAccepted budget a input r → IsOfBytes input → IsWalk a (with_activations a) budget input r
  pub force_recorded : (number budget : ℕ) (a : Accepted) (input : List ℕ) (r : Report)
      → ForcesAccepted number budget a input r → IsOfBytes input → IsForce number a (with_activations a) budget input r
  pub threads_recorded : (digits : List ℕ) (budget : ℕ) (a : Accepted) (input : List ℕ) (r : Report)
      → ThreadsAccepted digits budget a input r → IsOfBytes input → IsRecordedThreads a digits budget input r
  pub gnu_recorded : (filters : List (ℕ × ℕ)) (budget : ℕ) (a : Accepted) (input : List ℕ) (r : Report)
      → GnuAccepted filters budget a input r → IsOfBytes input → IsRecordedGnu a filters budget input r
  pub gen_recorded : (a : Accepted) (input : List ℕ) (r : Report) → CountsAccepted a input r → IsCount a (with_activations a) input r
  pub guarded : (budget : ℕ) (a : Accepted) (input : List ℕ) (r : Report) → RunsAccepted budget a input r → IsOfBytes input → RefusesToStore a input
  pub flat : (budget : ℕ) (code input : List ℕ) → length code ≤ 1048576
      → RunEnds (flat_run_result budget (code_start code) input) (codes "\n") (code_report budget code input)
  pub large : (budget : ℕ) (code input : List ℕ) → 1048576 < length code
      → code_report budget code input ≡ record { text = codes "image: TooLarge\n"; status = 3; left = input }
  pub usage : (files : List (List ℕ × List ℕ)) (input : List ℕ) (r : Report) → Reports None files input r
      → r
      ≡ record {
        text = codes "usage: ehabi_run flat FILE N | build FILE.. | check FILE.. | run FILE.. N | gen K M | walk FILE.. N | force FILE.. N K | gnu FILE N | threads FILE.. SCHED N\n";
        status = 2;
        left = input;
      }
  pub missing : (name : List ℕ) (files : List (List ℕ × List ℕ)) → answer_of files name 4194304 ≡ Missing
      → file_bytes name files ≡ Err (record { status = 10; line = name ++ codes ": missing\n" })
  pub too_long : (name : List ℕ) (files : List (List ℕ × List ℕ)) → answer_of files name 4194304 ≡ TooLong
      → file_bytes name files ≡ Err (record { status = 10; line = name ++ codes ": too long\n" })
  pub build : (bytes input : List ℕ) → plain_report bytes input ≡ record { text = bytes; status = 0; left = input }
  pub accepted : (a : Accepted) (input : List ℕ) (r : Report) → ChecksAccepted a input r
      → r ≡ record { text = codes "accepted " ++ decimal (length a.image.functions) ++ codes " functions\n"; status = 0; left = input }
