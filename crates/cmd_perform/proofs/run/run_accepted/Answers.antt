use Rattle.std.proofs.Common.{refl}
use Rattle.eh_gates.specs.State.{State}
use Rattle.sim_machines.specs.Checked.{program_of}
use Rattle.sim_machines.specs.Machine.{machine_of}
use Rattle.sim_machines.specs.Start.{start_of}
use Rattle.cmd_perform.specs.BothRuns.{bytes_events}
use Rattle.cmd_input.specs.Loading.{closing_of}
use Rattle.cmd_perform.specs.RunReport.{RunsAccepted, accepted_report, trace_section}
use Rattle.cmd_perform.proofs.RunReports.{run_accepted}
use Rattle.cmd_perform.proofs.Statuses.{end_of_run}
use Rattle.cmd_perform.proofs.Yielding.{run_some, both_kept, yields_run, yields_memory}
use Rattle.cmd_perform.proofs.run.run_accepted.Goals as goal

pub returns : goal.returns
unfolding accepted_report
returns g c =
    let a = c.args.accepted.now in
    yields_run State (machine_of (program_of a)) (λ _. refl) (λ s end. closing_of (trace_section a (bytes_events s)) end) c.args.budget (start_of (program_of a)) (λ s end fine. end_of_run end fine) (RunsAccepted c.args.budget a) ⊥ _ c.run-end.result _ _ _ _ _ _ _ _ _ _ _
    (λ b. run_accepted c.args.budget a b c.runs_same.ensures.same c.runs_same.ensures.guarded) (λ l. l) (run_some (program_of a) c.args.budget (start_of (program_of a)) c.run-end.result _ _ _ _ _ _ (rw (c.in-Ok.ensures.program, c.in-Ok.ensures.budget, c.in-Ok.ensures.state) at c.run-end.ensures.told)) c.run-end.ensures.faults.input.rose c.run-end.ensures.faults.out.rose
    c.run-end.ensures.faults.out.later (λ fine e. both_kept c.run-end.result _ _ _ _ c.run-end.ensures.faults.input.kept c.run-end.ensures.faults.out.kept fine) (rw c.events.ensures at c.answer_run.ensures)

pub returns-in-Err : goal.returns-in-Err
returns-in-Err g c = yields_memory (RunsAccepted c.args.budget c.args.accepted.now) ⊥ _ _ _ _
