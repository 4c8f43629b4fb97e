-- The reports of a generated program, from what the parts of a call have done.
use Rattle.std.proofs.Common.{◌≡◌, ◌⊎◌, ℕ, ◌<◌, List, [], ◌∷◌, ◌++◌, length, Option, Result, Ok, Err, false, refl, inl, inr, arith}
use Rattle.std.proofs.lemmas.List.Elements.{All-nil}
use Rattle.eh_gates.specs.State.{State}
use Rattle.sim_machines.specs.Activations.{Recorded}
use Rattle.sim_machines.specs.Checked.{program_of}
use Rattle.sim_machines.specs.Machine.{machine_of}
use Rattle.sim_machines.specs.Start.{start_of}
use Rattle.eh_port.specs.Causes.{Rose}
use Rattle.run_events.specs.Laws.{SameRan}
use Rattle.run_events.specs.Runs.{Ran, Runs, machine_run}
use Rattle.frame_check.specs.Accepts.{Accepted}
use Rattle.run_gates.specs.Ends.{is_fault}
use Rattle.thumb_core.specs.declared.ends.End.{End}
use Rattle.thumb_core.specs.declared.ends.End.TheVariants.{Exit, Terminate, Trap, Budget, ReadFault, WriteFault}
use Rattle.cmd_input.specs.Accepting.{BytesReportsBy, IsUnaccepted}
use Rattle.cmd_perform.specs.BothRuns.{bytes_run, recorded_run, bytes_events, recorded_events, HaveSameEvents, RunSame}
use Rattle.cmd_input.specs.Building.{build_image}
use Rattle.cmd_perform.specs.GenerateReport.{CountsAccepted, GenerateReports, IsUnfitProgram, counted_report, generated_source, summary_report, recorded_summary}
use Rattle.cmd_input.specs.Loading.{closing_of, status_of}
use Rattle.cmd_lines.specs.Text.{end_line}
use Rattle.cmd_perform.specs.Text.{summary}
use Rattle.cmd_answers.specs.Writes.{Answers, StopsEarly}
use Rattle.cmd_perform.specs.Writes.{AnswersRun}
use Rattle.cmd_perform.specs.Yields.{Streams, streams, Yields}
use Rattle.cmd_answers.specs.declared.status.TheConstants.{REFUSED}
use Rattle.cmd_answers.specs.declared.stop.Stop.{Stop}
use Rattle.cmd_answers.specs.declared.stop.Stop.TheVariants.{Memory}
use Rattle.cmd_input.specs.declared.words.TheConstants.{MOST_INSTRUCTIONS}
use Rattle.cmd_answers.proofs.Statuses.{says_unfit, refused_reported}
use Rattle.cmd_perform.proofs.Statuses.{says_end, end_of_run, IsOfRun}
use Rattle.cmd_perform.proofs.Yielding.{at_false, yields_answer, yields_stopped, yields_as}

-- neither source nor sink failed
no_fault : (end : End) → (end ≡ ReadFault → Rose 0 0) → (end ≡ WriteFault → Rose 0 0) → is_fault end ≡ false
no_fault (Exit number) read write = refl
no_fault (Terminate cause) read write = refl
no_fault (Trap kind value pc) read write = refl
no_fault Budget read write = refl
no_fault ReadFault read write = absurd (let r : Rose 0 0 = read refl in omega arith)
no_fault WriteFault read write = absurd (let r : Rose 0 0 = write refl in omega arith)

same_counts : (a : Accepted) (one : Ran State End) (two : Ran Recorded End) (input : List ℕ) → SameRan HaveSameEvents one two → counted_report bytes_events a one input ≡ counted_report recorded_events a two input
same_counts a one two input w = rw (w.end, w.state) refl

counts_same : (a : Accepted) (input : List ℕ) → RunSame a → CountsAccepted a input (summary_report a input)
unfolding summary_report recorded_summary
counts_same a input same = record { is = refl; recorded = same_counts a (bytes_run MOST_INSTRUCTIONS a []) (recorded_run MOST_INSTRUCTIONS a []) input (same MOST_INSTRUCTIONS [] (All-nil (λ (b : ℕ). b < 256))) }

summary_is : (a : Accepted) (end : End) (new : State) (input : List ℕ)
    → end ≡ (machine_run (machine_of (program_of a)) MOST_INSTRUCTIONS (start_of (program_of a)) []).end
    → new ≡ (machine_run (machine_of (program_of a)) MOST_INSTRUCTIONS (start_of (program_of a)) []).state
    → record { text = summary (length a.image.functions) new.events ++ end_line end; status = status_of end; left = input } ≡ summary_report a input
unfolding summary_report
summary_is a end new input e s = rw (e, s) refl

-- a run of an accepted image that neither its source nor its sink stops
pub accepted_counted : (a : Accepted) → RunSame a → (end : End) (new : State) (unspent : ℕ) (left dropped dropped' : Option (List ℕ))
    → Runs (machine_of (program_of a)) MOST_INSTRUCTIONS (start_of (program_of a)) [] end new unspent left dropped dropped'
    → (end ≡ ReadFault → Rose 0 0) → (end ≡ WriteFault → Rose 0 0)
    → (result : Result ℕ Stop) (before now : Option (List ℕ)) (f g : ℕ) → AnswersRun (closing_of (summary (length a.image.functions) new.events) end) end result before now f g
    → (input : Option (List ℕ)) (i : ℕ) → Yields (CountsAccepted a) ⊥ (streams input i before f) (streams input i now g) result
accepted_counted a same end new unspent left dropped dropped' r read write result before now f g answers input i = go (at_false (is_fault end) _ fine answers.fine)
  where
    fine : is_fault end ≡ false
    fine = no_fault end read write

    go : Answers (summary (length a.image.functions) new.events ++ end_line end) (status_of end) result before now f g ⊎ StopsEarly Memory result before now f g
        → Yields (CountsAccepted a) ⊥ (streams input i before f) (streams input i now g) result
    go (inr s) = yields_stopped (CountsAccepted a) ⊥ result input before now i f g s
    go (inl w) =
        yields_answer (CountsAccepted a) ⊥ (summary (length a.image.functions) new.events ++ end_line end) (status_of end) result input before now i f g
        (λ b. rw (summary_is a end new b (at_false (is_fault end) _ fine r.ends) (at_false (is_fault end) _ fine r.state_is)) (counts_same a b same))
        (says_end end ⊥ fine (λ l. l)) (IsOfRun.reported (end_of_run end fine)) w

-- the bytes of the program's image
pub program_built : (number functions : ℕ) (bytes : List ℕ) (old new : Streams) (result : Result ℕ Stop) → build_image (generated_source number functions ∷ []) ≡ Ok bytes
    → Yields (BytesReportsBy CountsAccepted bytes) (IsUnaccepted bytes) old new result
    → Yields (GenerateReports number functions) (IsUnfitProgram number functions) old new result
program_built number functions bytes old new result e y =
    yields_as (BytesReportsBy CountsAccepted bytes) (GenerateReports number functions) (IsUnaccepted bytes) (IsUnfitProgram number functions) old new result
    (λ b r is. rw e is) (λ w. rw e w) y

-- there are none, and the line says why
pub program_refused : (number functions : ℕ) (line : List ℕ) (result : Result ℕ Stop) (input before now : Option (List ℕ)) (i f g : ℕ) → build_image (generated_source number functions ∷ []) ≡ Err line
    → Answers line REFUSED result before now f g
    → Yields (GenerateReports number functions) (IsUnfitProgram number functions) (streams input i before f) (streams input i now g) result
program_refused number functions line result input before now i f g e a =
    yields_answer (GenerateReports number functions) (IsUnfitProgram number functions) line REFUSED result input before now i f g
    (λ b. rw e refl) (rw e (says_unfit ⊥ (Unit {0}) (λ l. l) tt)) refused_reported a
