-- The form of a report, and the parts that reports of several commands share (docs/guide/command-line.md).
use Rattle.std.specs.Prelude.{ℕ, ◌==◌, List, ◌++◌, if◌then◌else◌}
use Rattle.run_events.specs.Runs.{Ran}
use Rattle.thumb_core.specs.declared.ends.End.{End}
use Rattle.thumb_core.specs.declared.ends.End.TheVariants.{Exit, Terminate, Trap, Budget, ReadFault, WriteFault}
use Rattle.cmd_lines.specs.Text.{end_line}
use Rattle.cmd_answers.specs.declared.status.TheConstants.{DONE, EXIT_NONZERO, TERMINATED, TRAPPED, BUDGET_SPENT, READ_FAILED, WRITE_FAILED}
use Rattle.cmd_answers.specs.declared.stop.Stop.{Stop}
use Rattle.cmd_answers.specs.declared.stop.Stop.TheVariants.{Read, Write}

-- the output, the status, and the rest of the input
pub record Report : Type 0 where
  pub text : List ℕ
  pub status : ℕ
  pub left : List ℕ

-- ---- runs

abbrev pub status_of : End → ℕ
status_of (Exit number) = if number == 0 then DONE else EXIT_NONZERO
status_of (Terminate cause) = TERMINATED
status_of (Trap kind value pc) = TRAPPED
status_of Budget = BUDGET_SPENT
status_of ReadFault = READ_FAILED
status_of WriteFault = WRITE_FAILED

-- why the program stops if the input or the output fails
abbrev pub stop_of_fault : End → Stop
stop_of_fault (Exit number) = Read
stop_of_fault (Terminate cause) = Read
stop_of_fault (Trap kind value pc) = Read
stop_of_fault Budget = Read
stop_of_fault ReadFault = Read
stop_of_fault WriteFault = Write

-- what is written after the guest's bytes, and the status
pub record Closing : Type 0 where
  pub text : List ℕ
  pub status : ℕ

-- the line of the end, after what precedes it
abbrev pub closing_of : List ℕ → End → Closing
closing_of head end = record { text = head ++ end_line end; status = status_of end }

-- the guest's bytes, followed by what the last state and the end say
abbrev pub closed_report : {S : Type 0} → (S → End → Closing) → Ran S End → Report
closed_report says ran = record { text = ran.text ++ (says ran.state ran.end).text; status = (says ran.state ran.end).status; left = ran.left }

-- .. that is the text from the last state, and the closing line
abbrev pub ran_report : {S : Type 0} → (S → List ℕ) → Ran S End → Report
ran_report says ran = closed_report (λ s end. closing_of (says s) end) ran
