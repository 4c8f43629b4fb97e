use Rattle.std.proofs.Common.{refl}
use Rattle.eh_gates.specs.State.{State}
use Rattle.sim_machines.specs.Checked.{program_of}
use Rattle.sim_machines.specs.Start.{start_of}
use Rattle.gnu_machine.specs.GnuMachine.{gnu_machine_of}
use Rattle.cmd_perform.specs.BothRuns.{bytes_events}
use Rattle.cmd_perform.specs.GnuReport.{GnuAccepted, gnu_report}
use Rattle.cmd_input.specs.Loading.{closing_of}
use Rattle.cmd_perform.specs.RunReport.{trace_section}
use Rattle.cmd_perform.proofs.GnuReports.{gnu_some, run_gnu}
use Rattle.cmd_perform.proofs.Statuses.{end_of_run}
use Rattle.cmd_perform.proofs.Yielding.{both_kept, yields_run, yields_memory}
use Rattle.cmd_perform.proofs.gnu.gnu_accepted.Goals as goal

pub returns : goal.returns
unfolding gnu_report
returns g c =
    let a = c.args.accepted.now in
    let filters = c.args.filters.now in
    yields_run State (gnu_machine_of (program_of a) filters) (λ _. refl) (λ s end. closing_of (trace_section a (bytes_events s)) end) c.args.budget (start_of (program_of a)) (λ s end fine. end_of_run end fine) (GnuAccepted filters c.args.budget a) ⊥ _ c.gnu_run-end.result _ _ _ _ _ _ _ _ _ _ _
    (λ b. run_gnu filters c.args.budget a b c.gnu_same.ensures) (λ l. l) (gnu_some (program_of a) filters c.args.budget (start_of (program_of a)) c.gnu_run-end.result _ _ _ _ _ _ (rw (c.in-Ok.ensures.program, c.in-Ok.ensures.budget, c.in-Ok.ensures.state) at c.gnu_run-end.ensures.told)) c.gnu_run-end.ensures.faults.input.rose c.gnu_run-end.ensures.faults.out.rose
    c.gnu_run-end.ensures.faults.out.later (λ fine e. both_kept c.gnu_run-end.result _ _ _ _ c.gnu_run-end.ensures.faults.input.kept c.gnu_run-end.ensures.faults.out.kept fine) (rw c.events.ensures at c.answer_run.ensures)

pub returns-in-Err : goal.returns-in-Err
returns-in-Err g c = yields_memory (GnuAccepted c.args.filters.now c.args.budget c.args.accepted.now) ⊥ _ _ _ _
