-- A report of a run speaks of the program alone.
use Rattle.std.proofs.Common.{◌≡◌, ℕ, ◌-◌, List, [], ◌++◌, length, Option, Result, Ok, Err, refl, sym, ap, subst, ◌∙◌}
use Rattle.elf_image.specs.Image.{Image}
use Rattle.eh_phase.specs.Phases.{Frames}
use Rattle.eh_trace.specs.Text.{trace_text}
use Rattle.eh_trace.specs.Trace.{Trace}
use Rattle.eh_types.specs.Graph.{Row, name_of}
use Rattle.eh_walk.specs.Forced.{ForceResult, force_outcome}
use Rattle.eh_walk.specs.Reaching.{Onward, run_to_site}
use Rattle.eh_walk.specs.Text.{walk_text}
use Rattle.eh_walk.specs.Walks.{walk_frames, end_of_walk, walk_of}
use Rattle.eh_walk.specs.declared.stopping.ForceFault.{ForceFault}
use Rattle.eh_walk.specs.declared.walk.WalkEnd.{WalkEnd}
use Rattle.eh_walk.specs.declared.walk.WalkEnd.TheVariants.{Root, NoUnwind, Most, NotSite}
use Rattle.eh_walk.specs.declared.walk.WalkFrame.{WalkFrame}
use Rattle.run_events.specs.Runs.{Machine, Ran, machine_run}
use Rattle.frame_check.specs.Accepts.{Accepted}
use Rattle.eh_gates.specs.State.{State}
use Rattle.thumb_core.specs.declared.ends.End.{End}
use Rattle.thumb_core.specs.declared.ends.End.TheVariants.{Exit, Terminate, Trap, Budget, ReadFault, WriteFault}
use Rattle.sim_machines.specs.Checked.{program_of}
use Rattle.sim_machines.specs.Machine.{machine_of}
use Rattle.sim_machines.specs.Program.{Program}
use Rattle.sim_machines.specs.Start.{start_of}
use Rattle.sim_runs.specs.OneReport.{ProgramsAreOne}
use Rattle.cmd_perform.specs.BothRuns.{bytes_events}
use Rattle.cmd_perform.specs.ForceReport.{accepted_force, by_site_end, force_report, forced_type, report_from_forced, with_text_before, force_fault_report, IsRefusedForcing, IsUnforced}
use Rattle.cmd_perform.specs.GenerateReport.{summary_report}
use Rattle.cmd_input.specs.Loading.{Report, Closing, closing_of, ran_report, status_of}
use Rattle.cmd_perform.specs.RunReport.{accepted_report, run_report, trace_section}
use Rattle.cmd_perform.specs.TaskReport.{TaskReports}
use Rattle.cmd_perform.specs.Text.{trace_head, summary}
use Rattle.cmd_lines.specs.Text.{end_line}
use Rattle.cmd_perform.specs.WalkReport.{accepted_walk, walk_closing, walk_report, frames_report, frames_report_by}
use Rattle.cmd_answers.specs.declared.status.TheConstants.{DONE}
use Rattle.cmd_perform.specs.declared.walk.TheConstants.{MOST_FRAMES}
use Rattle.cmd_input.specs.declared.words.Task.{Task}
use Rattle.cmd_input.specs.declared.words.Task.TheVariants.{Run, Walk, Force}
use Rattle.cmd_input.specs.declared.words.TheConstants.{MOST_INSTRUCTIONS}
use Rattle.cmd_perform.specs.ThreadsReport.{accepted_threads}
use Rattle.cmd_perform.specs.eh_threads.Elements.{joint_over}
use Rattle.cmd_perform.specs.eh_threads.Schedules.{SchedulePoint, schedule_run}
use Rattle.thread_schedule.specs.Tags.{tag_text}
use Rattle.cmd_report_laws.specs.OneReport.{ReportsAreOne, ThreadsAreOne, CountsAreOne, RefusalsAreOne}

-- the report of a program's run
by_program : ℕ → List ℕ → Program → Report
by_program budget input p =
    ran_report (λ (s : State). trace_head ++ trace_text p.image (name_of p.types) (bytes_events s)) (machine_run (machine_of p) budget (start_of p) input)

is_by_program : (budget : ℕ) (a : Accepted) (input : List ℕ) → accepted_report budget a input ≡ by_program budget input (program_of a)
unfolding accepted_report by_program
is_by_program budget a input = refl

-- .. and of a walk in it: what stands after the guest's bytes rests on the image and its types
module _ (a b : Accepted) (image : a.image ≡ b.image) (types : a.types ≡ b.types) (events : Trace) where
  same_trace : trace_section a events ≡ trace_section b events
  same_trace =
      ap (λ (i : Image). trace_head ++ trace_text i (name_of a.types) events) image ∙ ap (λ (ts : List Row). trace_head ++ trace_text b.image (name_of ts) events) types

  same_closing : (end : End) → closing_of (trace_section a events) end ≡ closing_of (trace_section b events) end
  same_closing end = ap (λ (head : List ℕ). closing_of head end) same_trace

  walk_after : List ℕ → List ℕ → Closing
  walk_after head walk = record { text = head ++ walk; status = DONE }

  same_walked : (frames : List WalkFrame) → frames_report a events frames ≡ frames_report b events frames
  unfolding walk_after
  same_walked frames =
      ap (λ (head : List ℕ). walk_after head (walk_text a.image frames)) same_trace ∙ ap (λ (i : Image). walk_after (trace_section b events) (walk_text i frames)) image

  by_walk_end : (frames : List WalkFrame) (end : WalkEnd) → frames_report_by a events frames end ≡ frames_report_by b events frames end
  by_walk_end frames NotSite = same_closing Budget
  by_walk_end frames Root = same_walked frames
  by_walk_end frames NoUnwind = same_walked frames
  by_walk_end frames Most = same_walked frames

  by_end : (walk : Option Frames) (end : End) → walk_closing a events walk end ≡ walk_closing b events walk end
  by_end walk Budget = by_walk_end (walk_frames MOST_FRAMES walk) (end_of_walk MOST_FRAMES walk)
  by_end walk (Exit number) = same_closing (Exit number)
  by_end walk (Terminate cause) = same_closing (Terminate cause)
  by_end walk (Trap kind value pc) = same_closing (Trap kind value pc)
  by_end walk ReadFault = same_closing ReadFault
  by_end walk WriteFault = same_closing WriteFault

walk_by_program : ℕ → List ℕ → Accepted → Program → Report
walk_by_program budget input a p = walk_report bytes_events (λ (s : State). walk_of p s.regs s.memory) a (run_to_site p budget (start_of p) input)

is_walk_by_program : (budget : ℕ) (a : Accepted) (input : List ℕ) → accepted_walk budget a input ≡ walk_by_program budget input a (program_of a)
unfolding accepted_walk walk_by_program
is_walk_by_program budget a input = refl

ended_by : List ℕ → List ℕ → Closing → Report
ended_by text left c = record { text = text ++ c.text; status = c.status; left = left }

-- .. but for what is told of the one that was accepted
told_alike : (budget : ℕ) (input : List ℕ) (a b : Accepted) (p : Program) → a.image ≡ b.image → a.types ≡ b.types → walk_by_program budget input a p ≡ walk_by_program budget input b p
unfolding walk_by_program ended_by
told_alike budget input a b p i t =
    let ran : Ran (Onward State) End = run_to_site p budget (start_of p) input in
    ap (ended_by ran.text ran.left) (by_end a b i t (bytes_events ran.state.state) (walk_of p ran.state.state.regs ran.state.state.memory) ran.end)

-- .. and of a forced unwinding
module _ (a b : Accepted) (image : a.image ≡ b.image) (types : a.types ≡ b.types) where
  run_alike : {S : Type 0} (events : S → Trace) (ran : Ran S End) → run_report events a ran ≡ run_report events b ran
  unfolding ended_by
  run_alike events ran = ap (ended_by ran.text ran.left) (same_closing a b image types (events ran.state) ran.end)

  from_alike : (machine : Machine State End) (done : ℕ) (input : List ℕ) (result : Result (Unit {0}) ForceFault) (s : State)
      → report_from_forced bytes_events machine a done input (result, s) ≡ report_from_forced bytes_events machine b done input (result, s)
  unfolding ended_by
  from_alike machine done input (Ok u) s = run_alike bytes_events (machine_run machine (MOST_INSTRUCTIONS - done) s input)
  from_alike machine done input (Err fault) s = ap (λ (head : List ℕ). ended_by [] input (force_fault_report head fault)) (same_trace a b image types (bytes_events s))

  site_alike : (machine : Machine State End) (force : State → ForceResult) (ran : Ran (Onward State) End) (end : End)
      → by_site_end bytes_events machine force a ran end ≡ by_site_end bytes_events machine force b ran end
  site_alike machine force ran Budget = ap (with_text_before ran.text) (from_alike machine ran.state.done ran.left (force ran.state.state).0 (force ran.state.state).1)
  site_alike machine force ran (Exit number) = run_alike (λ (o : Onward State). bytes_events o.state) ran
  site_alike machine force ran (Terminate cause) = run_alike (λ (o : Onward State). bytes_events o.state) ran
  site_alike machine force ran (Trap kind value pc) = run_alike (λ (o : Onward State). bytes_events o.state) ran
  site_alike machine force ran ReadFault = run_alike (λ (o : Onward State). bytes_events o.state) ran
  site_alike machine force ran WriteFault = run_alike (λ (o : Onward State). bytes_events o.state) ran

force_by_program : ℕ → ℕ → List ℕ → Accepted → Program → Report
force_by_program number budget input a p =
    force_report bytes_events (machine_of p) (λ (s : State). force_outcome p number (forced_type p.image) s) a (run_to_site p budget (start_of p) input)

is_force_by_program : (number budget : ℕ) (a : Accepted) (input : List ℕ) → accepted_force number budget a input ≡ force_by_program number budget input a (program_of a)
unfolding accepted_force force_by_program
is_force_by_program number budget a input = refl

forced_alike : (number budget : ℕ) (input : List ℕ) (a b : Accepted) (p : Program) → a.image ≡ b.image → a.types ≡ b.types → force_by_program number budget input a p ≡ force_by_program number budget input b p
unfolding force_by_program
forced_alike number budget input a b p i t =
    let ran : Ran (Onward State) End = run_to_site p budget (start_of p) input in
    site_alike a b i t (machine_of p) (λ (s : State). force_outcome p number (forced_type p.image) s) ran ran.end

by_task : (task : Task) (budget : ℕ) (input : List ℕ) (a b : Accepted) (r q : Report) → program_of a ≡ program_of b → TaskReports task budget a input r → TaskReports task budget b input q → r ≡ q
by_task Run budget input a b r q e x y =
    x.is ∙ is_by_program budget a input ∙ ap (by_program budget input) e ∙ sym (is_by_program budget b input) ∙ sym y.is
by_task Walk budget input a b r q e x y =
    x.is ∙ is_walk_by_program budget a input ∙ ap (walk_by_program budget input a) e
    ∙ told_alike budget input a b (program_of b) (ap (λ (p : Program). p.image) e) (ap (λ (p : Program). p.types) e)
    ∙ sym (is_walk_by_program budget b input) ∙ sym y.is
by_task (Force number) budget input a b r q e x y =
    x.is ∙ is_force_by_program number budget a input ∙ ap (force_by_program number budget input a) e
    ∙ forced_alike number budget input a b (program_of b) (ap (λ (p : Program). p.image) e) (ap (λ (p : Program). p.types) e)
    ∙ sym (is_force_by_program number budget b input) ∙ sym y.is

pub refusals : ProgramsAreOne → RefusalsAreOne
refusals one number budget x y input are u =
    let e : program_of x ≡ program_of y = one x y are.one are.other are.same in
    record {
      comes = subst (λ (p : Program). (run_to_site p budget (start_of p) input).end ≡ Budget) e (IsUnforced.comes u);
      refused = subst (λ (p : Program). IsRefusedForcing (force_outcome p number (forced_type p.image) (run_to_site p budget (start_of p) input).state.state).0) e (IsUnforced.refused u);
    }

pub reports : ProgramsAreOne → ReportsAreOne
reports one request x y input r q are i j = by_task request.task request.budget input x y r q (one x y are.one are.other are.same) i j

-- .. as threads
threads_by_program : List ℕ → ℕ → List ℕ → Program → Report
threads_by_program digits budget input p =
    ran_report (λ (s : SchedulePoint). trace_head ++ tag_text s.joint.tags (trace_text p.image (name_of p.types) s.joint.events)) (schedule_run p digits budget (joint_over (start_of p)) input)

is_threads_by_program : (digits : List ℕ) (budget : ℕ) (a : Accepted) (input : List ℕ) → accepted_threads digits budget a input ≡ threads_by_program digits budget input (program_of a)
unfolding accepted_threads threads_by_program
is_threads_by_program digits budget a input = refl

pub threads : ProgramsAreOne → ThreadsAreOne
threads one digits budget x y input r q are i j =
    i.is ∙ is_threads_by_program digits budget x input ∙ ap (threads_by_program digits budget input) (one x y are.one are.other are.same)
    ∙ sym (is_threads_by_program digits budget y input) ∙ sym j.is

-- .. of which the events are counted
counted : List ℕ → Program → Report
counted input p =
    let ran : Ran State End = machine_run (machine_of p) MOST_INSTRUCTIONS (start_of p) [] in
    record { text = summary (length p.image.functions) (bytes_events ran.state) ++ end_line ran.end; status = status_of ran.end; left = input }

is_counted : (a : Accepted) (input : List ℕ) → summary_report a input ≡ counted input (program_of a)
unfolding summary_report counted
is_counted a input = refl

pub counts : ProgramsAreOne → CountsAreOne
counts one x y input r q are i j =
    i.is ∙ is_counted x input ∙ ap (counted input) (one x y are.one are.other are.same) ∙ sym (is_counted y input) ∙ sym j.is
