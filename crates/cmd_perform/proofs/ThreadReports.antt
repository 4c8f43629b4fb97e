-- The report of a run of threads, from what the run does.
use Rattle.std.proofs.Common.{◌≡◌, ◌<◌, ◌+◌, ◌-◌, ℕ, List, ◌++◌, Option, Some, None, IfSome, Result, Bool, true, false, inl, inr, refl, sym, ap, subst, ◌∙◌, arith}
use Rattle.std.proofs.lemmas.Bool.{false≢true}
use Rattle.std.specs.Bool.{OnFalse}
use Rattle.eh_machine.specs.Turns.{CountsFaults}
use Rattle.eh_port.specs.Writing.{AppendsPart}
use Rattle.eh_port.proofs.Parts.{part_first, part_whole}
use Rattle.run_events.specs.Runs.{Ran, ReachedState, reach_state, run, prepend}
use Rattle.run_events.proofs.RunLaws.{splits}
use Rattle.frame_check.specs.Accepts.{Accepted}
use Rattle.run_gates.specs.Ends.{is_fault}
use Rattle.eh_threads.specs.Done.{RanUpTo, RanWhole, RunsSchedule}
use Rattle.eh_threads.specs.Elements.{Joint, joint_over}
use Rattle.eh_threads.specs.Schedules.{SchedulePoint, at_first, next_element, schedule_run}
use Rattle.eh_threads.proofs.Running.{is_run}
use Rattle.thumb_core.specs.declared.ends.End.{End}
use Rattle.thumb_core.specs.declared.ends.End.TheVariants.{Budget}
use Rattle.sim_machines.specs.Checked.{program_of}
use Rattle.sim_machines.specs.Program.{Program}
use Rattle.sim_machines.specs.Start.{start_of}
use Rattle.cmd_answers.specs.declared.stop.Stop.{Stop}
use Rattle.cmd_input.specs.Loading.{Closing, Report, closing_of}
use Rattle.thread_laws.specs.RecordedThreads as recorded
use Rattle.cmd_perform.specs.ThreadsReport.{ThreadsAccepted, ThreadsSame, accepted_threads, recorded_threads_report, bytes_threads, scheduled_trace, threads_trace}
use Rattle.cmd_perform.specs.Writes.{AnswersRun}
use Rattle.cmd_perform.specs.Yields.{Yields, streams}
use Rattle.cmd_perform.proofs.Statuses.{end_of_run}
use Rattle.cmd_perform.proofs.Yielding.{Told, both_kept, yields_told}

on_any : (b : Bool) (P : Type 0) → P → OnFalse b P
on_any true P p = tt
on_any false P p = p

at_fault : (b : Bool) (P : Type 0) → b ≡ true → OnFalse b P
at_fault true P e = tt
at_fault false P e = absurd (false≢true e)

-- what is said of the last state of a run
abbrev says : Accepted → SchedulePoint → End → Closing
says a s end = closing_of (scheduled_trace a s) end

-- the text of a run begins with that of its first elements, where these went
begins : (p : Program) (digits : List ℕ) (n count : ℕ) (s : SchedulePoint) (input : List ℕ) (r : ReachedState SchedulePoint) → count < n → reach_state (next_element p digits) count s input ≡ Some r
    → (rest : List ℕ) × ((run (next_element p digits) Budget n s input).text ≡ r.text ++ rest)
begins p digits n count s input r within went =
    let sum : count + (n - count) ≡ n = omega (arith, within) in
    let split = splits SchedulePoint End (next_element p digits) Budget count (n - count) s input in
    let is : run (next_element p digits) Budget (count + (n - count)) s input ≡ prepend r.text (run (next_element p digits) Budget (n - count) r.state r.left) = rw went at split in (
      (run (next_element p digits) Budget (n - count) r.state r.left).text,
      ap (λ (k : ℕ). (run (next_element p digits) Budget k s input).text) (sym sum) ∙ ap (λ (x : Ran SchedulePoint End). x.text) is,
    )

module _ (a : Accepted) (digits : List ℕ) (n : ℕ) (w w' : Joint) (end : End) (left before now : Option (List ℕ)) where
  abbrev ran : List ℕ → Ran SchedulePoint End
  ran input = schedule_run (program_of a) digits n w input

  whole : (input : List ℕ) → RanWhole (ran input) end w' left before now → Told (says a) (ran input) end (closing_of (threads_trace a w'.events w'.tags) end) left before now
  whole input r = record {
    part = part_whole before now (ran input).text r.wrote;
    ends = on_any (is_fault end) _ r.ends;
    closes = on_any (is_fault end) _ (rw (r.threads, r.ends) refl);
    leaves = on_any (is_fault end) _ r.leaves;
    wrote = on_any (is_fault end) _ r.wrote;
  }

  up_to : (input : List ℕ) → RanUpTo (program_of a) digits n w input end w' left before now
      → Told (says a) (ran input) end (closing_of (threads_trace a w'.events w'.tags) end) left before now
  up_to input r =
      let rest = begins (program_of a) digits n r.count (at_first w) input _ r.within r.went in
      let text : (ran input).text ≡ r.text ++ rest.0 = ap (λ (x : Ran SchedulePoint End). x.text) (is_run (program_of a) digits n w input r.not_over) ∙ rest.1 in
      record {
        part = subst (λ (t : List ℕ). AppendsPart before now t) (sym text) (part_first before now r.text rest.0 (part_whole before now r.text r.wrote));
        ends = at_fault (is_fault end) _ r.fault.fault;
        closes = at_fault (is_fault end) _ r.fault.fault;
        leaves = at_fault (is_fault end) _ r.fault.fault;
        wrote = at_fault (is_fault end) _ r.fault.fault;
      }

  told : (input : Option (List ℕ)) → IfSome input (λ b. RunsSchedule (program_of a) digits n w b end w' left before now)
      → IfSome input (λ b. Told (says a) (ran b) end (closing_of (threads_trace a w'.events w'.tags) end) left before now)
  told None r = tt
  told (Some b) r = elim r [
    | inl done ↦ whole b done
    | inr part ↦ up_to b part
  ]

-- what is told of a run, as a report
abbrev report_of : Accepted → recorded.Observation → Report
report_of a t = let closing = closing_of (threads_trace a t.1 t.2) t.3 in record { text = t.0 ++ closing.text; status = closing.status; left = t.4 }

pub run_threads : (digits : List ℕ) (budget : ℕ) (a : Accepted) (input : List ℕ) → ThreadsSame a → ThreadsAccepted digits budget a input (accepted_threads digits budget a input)
unfolding accepted_threads recorded_threads_report
run_threads digits budget a input same = record { is = refl; recorded = λ bytes. ap (report_of a) (same digits budget input bytes) }

-- the whole call, from the start of the program
pub threads_yield : (a : Accepted) (digits : List ℕ) (budget : ℕ) (w' : Joint) (end : End) (result : Result ℕ Stop) (input left before mid now : Option (List ℕ)) (i j f g h : ℕ)
    → ThreadsSame a → IfSome input (λ b. RunsSchedule (program_of a) digits budget (joint_over (start_of (program_of a))) b end w' left before mid)
    → CountsFaults (λ e. end ≡ e) i j f g
    → AnswersRun (closing_of (threads_trace a w'.events w'.tags) end) end result mid now g h
    → Yields (ThreadsAccepted digits budget a) ⊥ (streams input i before f) (streams left j now h) result
unfolding accepted_threads
threads_yield a digits budget w' end result input left before mid now i j f g h same runs faults answers =
    yields_told SchedulePoint (says a) (λ b. bytes_threads digits budget a b) (ThreadsAccepted digits budget a) ⊥ end (closing_of (threads_trace a w'.events w'.tags) end) result
    input left before mid now i j f g h (λ fine. end_of_run end fine) (λ b. run_threads digits budget a b same) (λ l. l)
    (told a digits budget (joint_over (start_of (program_of a))) w' end left before mid input runs)
    faults.input.rose faults.out.rose faults.out.later (λ fine e. both_kept end i j f g faults.input.kept faults.out.kept fine) answers
