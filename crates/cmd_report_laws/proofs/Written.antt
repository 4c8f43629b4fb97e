-- What reports say last, and their statuses.
use Rattle.std.proofs.Common.{◌≡◌, ◌≢◌, ℕ, ◌-◌, ◌==◌, ◌<◌, ◌≤◌, nat_lt, Bool, true, false, cond, List, [], ◌++◌, length, Option, Result, Ok, Err, refl, sym, ap, subst, ◌∙◌, append_assoc}
use Rattle.std.proofs.lemmas.Bool.{lt-ltb, le-ltb, eqb-true}
use Rattle.eh_bus.specs.declared.map.TheConstants.{MAX_IMAGE_SIZE}
use Rattle.eh_port.specs.FileList.{answer_of}
use Rattle.eh_port.specs.declared.files.FileAnswer.{FileAnswer}
use Rattle.eh_port.specs.declared.files.FileAnswer.TheVariants.{Missing, TooLong}
use Rattle.eh_gates.specs.State.{State}
use Rattle.sim_machines.specs.Activations.{Recorded}
use Rattle.eh_trace.specs.Trace.{Trace}
use Rattle.eh_phase.specs.Phases.{Frames}
use Rattle.eh_walk.specs.Reaching.{Onward}
use Rattle.eh_walk.specs.Walks.{walk_frames, end_of_walk}
use Rattle.eh_walk.specs.declared.walk.WalkEnd.{WalkEnd}
use Rattle.eh_walk.specs.declared.walk.WalkEnd.TheVariants.{Root, NoUnwind, Most, NotSite as NoSite}
use Rattle.eh_walk.specs.declared.stopping.ForceFault.{ForceFault}
use Rattle.eh_walk.specs.declared.stopping.ForceFault.TheVariants.{NotSite, NoFrame, InsideCleanup, NoStop, BadTables, BadType, PoolFull}
use Rattle.eh_walk.specs.declared.walk.WalkFrame.{WalkFrame}
use Rattle.elf_image.specs.declared.fault.ImageFault.TheVariants.{TooLarge}
use Rattle.run_events.specs.Runs.{Ran, machine_run}
use Rattle.frame_check.specs.Accepts.{Accepted}
use Rattle.run_images.specs.Start.{code_start}
use Rattle.run_flat.specs.Machine.{flat_run_result}
use Rattle.thumb_core.specs.declared.ends.End.{End}
use Rattle.thumb_core.specs.declared.ends.End.TheVariants.{Exit, Terminate, Trap, Budget, ReadFault, WriteFault}
use Rattle.cmd_input.specs.Finding.{file_bytes, bytes_of_answer}
use Rattle.cmd_perform.specs.FlatReport.{code_report, line_feed}
use Rattle.cmd_perform.specs.ForceReport.{accepted_force, recorded_force_report, by_site_end, report_from_forced, with_text_before}
use Rattle.cmd_perform.specs.GenerateReport.{summary_report, recorded_summary, counted_report}
use Rattle.cmd_perform.specs.GnuReport.{gnu_report, recorded_gnu_report}
use Rattle.cmd_input.specs.Loading.{Report, Closing, closing_of, ran_report, status_of}
use Rattle.cmd_perform.specs.RunReport.{accepted_report, recorded_report, run_report}
use Rattle.cmd_perform.specs.ThreadsReport.{accepted_threads, recorded_threads_report}
use Rattle.cmd_perform.specs.thread_laws.RecordedThreads.{RecordedPlace}
use Rattle.cmd_perform.specs.eh_threads.Schedules.{SchedulePoint}
use Rattle.cmd_lines.specs.Text.{end_line, image_fault_line}
use Rattle.cmd_perform.specs.WalkReport.{accepted_walk, recorded_walk_report, walk_closing, frames_report_by}
use Rattle.cmd_answers.specs.declared.status.TheConstants.{DONE, EXIT_NONZERO, REFUSED}
use Rattle.cmd_perform.specs.declared.walk.TheConstants.{MOST_FRAMES}
use Rattle.cmd_report_laws.specs.Written.{OnImage, over_bytes, with_activations, EndsSo, RunEnds, trace_of, IsRun, WalkEnds, IsWalk, ForceEnds, IsForce, threads_of, threads_run_result, IsThreads, recorded_threads_run_result, IsRecordedThreads, IsCount, gnu_run_result, IsGnu, recorded_gnu_run_result, IsRecordedGnu, ReportsAreWritten}

-- ---- ends

exit_zero : (number : ℕ) → number ≡ 0 → cond (number == 0) DONE EXIT_NONZERO ≡ 0
exit_zero number e = rw e refl

exit_other : (number : ℕ) (b : Bool) → (number == 0) ≡ b → number ≢ 0 → cond b DONE EXIT_NONZERO ≡ 1
exit_other number true e other = absurd (other (eqb-true number 0 e))
exit_other number false e other = refl

ends_so : (end : End) → EndsSo end (end_line end) (status_of end)
ends_so (Exit number) = (refl, (exit_zero number, exit_other number (number == 0) refl))
ends_so (Terminate cause) = (refl, refl)
ends_so (Trap kind value pc) = (refl, refl)
ends_so Budget = (refl, refl)
ends_so ReadFault = tt
ends_so WriteFault = tt

run_ends : {S : Type 0} (says : S → List ℕ) (ran : Ran S End) → RunEnds ran (says ran.state) (ran_report says ran)
run_ends says ran = record { line = end_line ran.end; ends = ends_so ran.end; text = refl; left = refl }

-- ---- runs

runs : {S : Type 0} (a : Accepted) (x : OnImage S) (ran : Ran S End) (r : Report) → r ≡ run_report x.events a ran → RunEnds ran (trace_of a (x.events ran.state)) r
runs {S} a x ran r e = subst (RunEnds ran (trace_of a (x.events ran.state))) (sym e) (run_ends (λ (s : S). trace_of a (x.events s)) ran)

run_of : {S : Type 0} → Accepted → OnImage S → ℕ → List ℕ → Report
run_of a x budget input = run_report x.events a (machine_run x.machine budget x.start input)

is_run : {S : Type 0} (a : Accepted) (x : OnImage S) (budget : ℕ) (input : List ℕ) (r : Report) → r ≡ run_of a x budget input → IsRun a x budget input r
unfolding run_of
is_run a x budget input r e = runs a x (machine_run x.machine budget x.start input) r e

accepted_is : (budget : ℕ) (a : Accepted) (input : List ℕ) → accepted_report budget a input ≡ run_of a (over_bytes a) budget input
unfolding accepted_report run_of
accepted_is budget a input = refl

recorded_is : (budget : ℕ) (a : Accepted) (input : List ℕ) → recorded_report budget a input ≡ run_of a (with_activations a) budget input
unfolding recorded_report run_of
recorded_is budget a input = refl

-- ---- runs of GNU's code

gnu_is : (filters : List (ℕ × ℕ)) (budget : ℕ) (a : Accepted) (input : List ℕ) → gnu_report filters budget a input ≡ run_report (λ s. s.events) a (gnu_run_result a filters budget input)
unfolding gnu_report
gnu_is filters budget a input = refl

recorded_gnu_is : (filters : List (ℕ × ℕ)) (budget : ℕ) (a : Accepted) (input : List ℕ)
    → recorded_gnu_report filters budget a input ≡ run_report (λ s. s.events) a (recorded_gnu_run_result a filters budget input)
unfolding recorded_gnu_report
recorded_gnu_is filters budget a input = refl

is_gnu : (filters : List (ℕ × ℕ)) (budget : ℕ) (a : Accepted) (input : List ℕ) (r : Report) → r ≡ gnu_report filters budget a input → IsGnu a filters budget input r
is_gnu filters budget a input r e = runs a (over_bytes a) (gnu_run_result a filters budget input) r (e ∙ gnu_is filters budget a input)

is_recorded_gnu : (filters : List (ℕ × ℕ)) (budget : ℕ) (a : Accepted) (input : List ℕ) (r : Report) → r ≡ recorded_gnu_report filters budget a input
    → IsRecordedGnu a filters budget input r
is_recorded_gnu filters budget a input r e = runs a (with_activations a) (recorded_gnu_run_result a filters budget input) r (e ∙ recorded_gnu_is filters budget a input)

-- ---- runs of threads

abbrev scheduled : Accepted → SchedulePoint → List ℕ
scheduled a s = threads_of a s.joint.events s.joint.tags

abbrev recorded : Accepted → RecordedPlace → List ℕ
recorded a s = threads_of a s.threads.events s.threads.tags

threads_is : (digits : List ℕ) (budget : ℕ) (a : Accepted) (input : List ℕ) → accepted_threads digits budget a input ≡ ran_report (scheduled a) (threads_run_result a digits budget input)
unfolding accepted_threads
threads_is digits budget a input = refl

recorded_threads_is : (digits : List ℕ) (budget : ℕ) (a : Accepted) (input : List ℕ)
    → recorded_threads_report digits budget a input ≡ ran_report (recorded a) (recorded_threads_run_result a digits budget input)
unfolding recorded_threads_report
recorded_threads_is digits budget a input = refl

is_threads : (digits : List ℕ) (budget : ℕ) (a : Accepted) (input : List ℕ) (r : Report) → r ≡ accepted_threads digits budget a input → IsThreads a digits budget input r
is_threads digits budget a input r e =
    subst (RunEnds (threads_run_result a digits budget input) (scheduled a (threads_run_result a digits budget input).state)) (sym (e ∙ threads_is digits budget a input))
    (run_ends (scheduled a) (threads_run_result a digits budget input))

is_recorded_threads : (digits : List ℕ) (budget : ℕ) (a : Accepted) (input : List ℕ) (r : Report) → r ≡ recorded_threads_report digits budget a input
    → IsRecordedThreads a digits budget input r
is_recorded_threads digits budget a input r e =
    subst (RunEnds (recorded_threads_run_result a digits budget input) (recorded a (recorded_threads_run_result a digits budget input).state)) (sym (e ∙ recorded_threads_is digits budget a input))
    (run_ends (recorded a) (recorded_threads_run_result a digits budget input))

-- ---- walks

closed : {T : Type 0} → Ran T End → Closing → Report
closed ran c = record { text = ran.text ++ c.text; status = c.status; left = ran.left }

module _ (S : Type 0) (a : Accepted) (x : OnImage S) (ran : Ran (Onward S) End) where
  abbrev events_there : Trace
  events_there = x.events ran.state.state

  walk_at : Report
  walk_at = closed ran (walk_closing a events_there (x.walk ran.state.state) ran.end)

  as_run : (c : Closing) → c ≡ closing_of (trace_of a events_there) ran.end → RunEnds ran (trace_of a events_there) (closed ran c)
  unfolding closed
  as_run c e = subst (λ (c : Closing). RunEnds ran (trace_of a events_there) (record { text = ran.text ++ c.text; status = c.status; left = ran.left })) (sym e)
      (record { line = end_line ran.end; ends = ends_so ran.end; text = refl; left = refl })

  before : (walk : Option Frames) (end : End) → end ≢ Budget → walk_closing a events_there walk end ≡ closing_of (trace_of a events_there) end
  before walk Budget other = absurd (other refl)
  before walk (Exit number) other = refl
  before walk (Terminate cause) other = refl
  before walk (Trap kind value pc) other = refl
  before walk ReadFault other = refl
  before walk WriteFault other = refl

  at_no_site : (walk : Option Frames) (end : End) → end ≡ Budget → end_of_walk 65536 walk ≡ NoSite → walk_closing a events_there walk end ≡ closing_of (trace_of a events_there) end
  at_no_site walk end e n = rw e (ap (λ (w : WalkEnd). frames_report_by a events_there (walk_frames MOST_FRAMES walk) w) n)

  at_site : (frames : List WalkFrame) (w : WalkEnd) → w ≢ NoSite → frames_report_by a events_there frames w ≡ frames_report_by a events_there frames Root
  at_site frames NoSite other = absurd (other refl)
  at_site frames Root other = refl
  at_site frames NoUnwind other = refl
  at_site frames Most other = refl

  with_frames : (walk : Option Frames) (end : End) → end ≡ Budget → end_of_walk 65536 walk ≢ NoSite → walk_closing a events_there walk end ≡ frames_report_by a events_there (walk_frames 65536 walk) Root
  with_frames walk end e n = rw e (at_site (walk_frames MOST_FRAMES walk) (end_of_walk MOST_FRAMES walk) n)

  walk_ends : WalkEnds a x ran walk_at
  unfolding closed walk_at
  walk_ends = record {
    before = λ other. as_run _ (before (x.walk ran.state.state) ran.end other);
    nowhere = λ e n. as_run _ (at_no_site (x.walk ran.state.state) ran.end e n);
    frames = λ e n. ap (closed ran) (with_frames (x.walk ran.state.state) ran.end e n);
  }

is_walk : {S : Type 0} (a : Accepted) (x : OnImage S) (budget : ℕ) (input : List ℕ) (r : Report) → r ≡ walk_at S a x (x.to_site budget input) → IsWalk a x budget input r
is_walk {S} a x budget input r e = subst (WalkEnds a x (x.to_site budget input)) (sym e) (walk_ends S a x (x.to_site budget input))

walk_is : (budget : ℕ) (a : Accepted) (input : List ℕ) → accepted_walk budget a input ≡ walk_at State a (over_bytes a) ((over_bytes a).to_site budget input)
unfolding accepted_walk walk_at closed
walk_is budget a input = refl

recorded_walk_is : (budget : ℕ) (a : Accepted) (input : List ℕ) → recorded_walk_report budget a input ≡ walk_at Recorded a (with_activations a) ((with_activations a).to_site budget input)
unfolding recorded_walk_report walk_at closed
recorded_walk_is budget a input = refl

-- ---- forced unwinding

module _ (S : Type 0) (number : ℕ) (a : Accepted) (x : OnImage S) (ran : Ran (Onward S) End) where
  abbrev at : End → Report
  at end = by_site_end x.events x.machine (x.unwound number) a ran end

  force_at : Report
  force_at = at ran.end

  abbrev from : Result (Unit {0}) ForceFault → Report
  from answer = with_text_before ran.text (report_from_forced x.events x.machine a ran.state.done ran.left (answer, (x.unwound number ran.state.state).1))

  ended_before : (end : End) → end ≢ Budget → at end ≡ run_report (λ (o : Onward S). x.events o.state) a ran
  ended_before Budget other = absurd (other refl)
  ended_before (Exit number) other = refl
  ended_before (Terminate cause) other = refl
  ended_before (Trap kind value pc) other = refl
  ended_before ReadFault other = refl
  ended_before WriteFault other = refl

  at_a_site : ran.end ≡ Budget → (answer : Result (Unit {0}) ForceFault) → (x.unwound number ran.state.state).0 ≡ answer → at ran.end ≡ from answer
  at_a_site e answer f = ap at e ∙ ap from f

  went_on : ran.end ≡ Budget → (x.unwound number ran.state.state).0 ≡ Ok tt → (on : Ran S End)
      → on ≡ machine_run x.machine (1000000000 - ran.state.done) (x.unwound number ran.state.state).1 ran.left
      → RunEnds (record on { text = ran.text ++ on.text }) (trace_of a (x.events on.state)) (at ran.end)
  went_on e f on is =
      let same : at ran.end ≡ with_text_before ran.text (run_report x.events a on) =
      at_a_site e (Ok tt) f ∙ ap (λ (o : Ran S End). with_text_before ran.text (run_report x.events a o)) (sym is) in
      subst (RunEnds (record on { text = ran.text ++ on.text }) (trace_of a (x.events on.state))) (sym same)
      (record { line = end_line on.end; ends = ends_so on.end; text = sym (append_assoc ran.text on.text (trace_of a (x.events on.state) ++ end_line on.end)); left = refl })

  force_ends : ForceEnds number a x ran force_at
  unfolding force_at
  force_ends = record {
    before = λ other. subst (RunEnds ran (trace_of a (x.events ran.state.state))) (sym (ended_before ran.end other)) (run_ends (λ (o : Onward S). trace_of a (x.events o.state)) ran);
    nowhere = λ e f. at_a_site e (Err NotSite) f;
    no_frame = λ e f. at_a_site e (Err NoFrame) f;
    inside_cleanup = λ e f. at_a_site e (Err InsideCleanup) f;
    no_stop = λ e f. at_a_site e (Err NoStop) f;
    bad_tables = λ e f. at_a_site e (Err BadTables) f;
    bad_type = λ e f. at_a_site e (Err BadType) f;
    pool_full = λ e f. at_a_site e (Err PoolFull) f;
    unwound = λ e f on is. went_on e f on is;
  }

is_force : {S : Type 0} (number : ℕ) (a : Accepted) (x : OnImage S) (budget : ℕ) (input : List ℕ) (r : Report) → r ≡ force_at S number a x (x.to_site budget input)
    → IsForce number a x budget input r
is_force {S} number a x budget input r e =
    subst (ForceEnds number a x (x.to_site budget input)) (sym e) (force_ends S number a x (x.to_site budget input))

force_is : (number budget : ℕ) (a : Accepted) (input : List ℕ) → accepted_force number budget a input ≡ force_at State number a (over_bytes a) ((over_bytes a).to_site budget input)
unfolding accepted_force force_at
force_is number budget a input = refl

recorded_force_is : (number budget : ℕ) (a : Accepted) (input : List ℕ)
    → recorded_force_report number budget a input ≡ force_at Recorded number a (with_activations a) ((with_activations a).to_site budget input)
unfolding recorded_force_report force_at
recorded_force_is number budget a input = refl

-- ---- raw code

by_size : ℕ → List ℕ → List ℕ → Bool → Report
by_size budget code input b =
    cond b (record { text = image_fault_line TooLarge; status = REFUSED; left = input }) (ran_report line_feed (flat_run_result budget (code_start code) input))

code_is : (budget : ℕ) (code input : List ℕ) → code_report budget code input ≡ by_size budget code input (nat_lt MAX_IMAGE_SIZE (length code))
unfolding code_report by_size
code_is budget code input = refl

fits : (budget : ℕ) (code input : List ℕ) → length code ≤ 1048576 → code_report budget code input ≡ ran_report line_feed (flat_run_result budget (code_start code) input)
unfolding by_size
fits budget code input h = code_is budget code input ∙ ap (by_size budget code input) (le-ltb MAX_IMAGE_SIZE (length code) h)

exceeds : (budget : ℕ) (code input : List ℕ) → 1048576 < length code → code_report budget code input ≡ record { text = image_fault_line TooLarge; status = REFUSED; left = input }
unfolding by_size
exceeds budget code input h = code_is budget code input ∙ ap (by_size budget code input) (lt-ltb MAX_IMAGE_SIZE (length code) h)

-- ---- generated programs

count_of : {S : Type 0} → Accepted → OnImage S → List ℕ → Report
count_of a x input = counted_report x.events a (machine_run x.machine 1000000000 x.start []) input

is_count : {S : Type 0} (a : Accepted) (x : OnImage S) (input : List ℕ) → IsCount a x input (count_of a x input)
unfolding count_of
is_count a x input =
    record { line = end_line (machine_run x.machine 1000000000 x.start []).end; ends = ends_so (machine_run x.machine 1000000000 x.start []).end; text = refl; left = refl }

summary_is : (a : Accepted) (input : List ℕ) → summary_report a input ≡ count_of a (over_bytes a) input
unfolding summary_report count_of
summary_is a input = refl

recorded_summary_is : (a : Accepted) (input : List ℕ) → recorded_summary a input ≡ count_of a (with_activations a) input
unfolding recorded_summary count_of
recorded_summary_is a input = refl

-- ---- files

file_is : (name : List ℕ) (files : List (List ℕ × List ℕ)) (answer : FileAnswer) → answer_of files name 4194304 ≡ answer → file_bytes name files ≡ bytes_of_answer name answer
unfolding file_bytes
file_is name files answer e = ap (bytes_of_answer name) e

-- ---- all

pub written : ReportsAreWritten
written = record {
  run = λ budget a input r h. is_run a (over_bytes a) budget input r (h.is ∙ accepted_is budget a input);
  walk = λ budget a input r h. is_walk a (over_bytes a) budget input r (h.is ∙ walk_is budget a input);
  force = λ number budget a input r h. is_force number a (over_bytes a) budget input r (h.is ∙ force_is number budget a input);
  threads = λ digits budget a input r h. is_threads digits budget a input r h.is;
  gnu = λ filters budget a input r h. is_gnu filters budget a input r h.is;
  gen = λ a input r h. subst (IsCount a (over_bytes a) input) (sym (h.is ∙ summary_is a input)) (is_count a (over_bytes a) input);
  run_recorded = λ budget a input r h bytes. is_run a (with_activations a) budget input r (h.recorded bytes ∙ recorded_is budget a input);
  walk_recorded = λ budget a input r h bytes. is_walk a (with_activations a) budget input r (h.recorded bytes ∙ recorded_walk_is budget a input);
  force_recorded = λ number budget a input r h bytes. is_force number a (with_activations a) budget input r (h.recorded bytes ∙ recorded_force_is number budget a input);
  gnu_recorded = λ filters budget a input r h bytes. is_recorded_gnu filters budget a input r (h.recorded bytes);
  threads_recorded = λ digits budget a input r h bytes. is_recorded_threads digits budget a input r (h.recorded bytes);
  gen_recorded = λ a input r h. subst (IsCount a (with_activations a) input) (sym (h.recorded ∙ recorded_summary_is a input)) (is_count a (with_activations a) input);
  guarded = λ budget a input r h bytes count width at value slot w aligned has low high. h.guarded bytes count width at value slot w (ap (λ n. n == 0) aligned) has low high;
  flat = λ budget code input h.
      subst (RunEnds (flat_run_result budget (code_start code) input) _) (sym (fits budget code input h)) (run_ends line_feed (flat_run_result budget (code_start code) input));
  large = λ budget code input h. exceeds budget code input h;
  usage = λ files input r h. h;
  missing = λ name files e. file_is name files Missing e;
  too_long = λ name files e. file_is name files TooLong e;
  build = λ bytes input. refl;
  accepted = λ a input r h. h;
}
