use Rattle.std.proofs.Common.{refl, ◌-◌}
use Rattle.eh_gates.specs.State.{State, state_of}
use Rattle.sim_machines.specs.Checked.{program_of}
use Rattle.sim_machines.specs.Machine.{machine_of}
use Rattle.cmd_perform.specs.BothRuns.{bytes_events}
use Rattle.cmd_perform.specs.ForceReport.{bytes_from_site, force_bytes, IsRefusedForcing}
use Rattle.cmd_input.specs.Loading.{closing_of}
use Rattle.cmd_perform.specs.RunReport.{trace_section}
use Rattle.cmd_perform.specs.Yields.{Only}
use Rattle.cmd_input.specs.declared.words.TheConstants.{MOST_INSTRUCTIONS}
use Rattle.cmd_perform.proofs.ForceReports.{went_on, not_refused, not_unwound}
use Rattle.cmd_perform.proofs.Statuses.{end_of_run}
use Rattle.cmd_perform.proofs.Yielding.{run_some, both_kept, yields_run}
use Rattle.cmd_perform.proofs.force.force_and_go_on.Goals as goal

pub returns-in-Ok : goal.returns-in-Ok
returns-in-Ok g c =
    let m = c.args.machine.now in
    let a = m.accepted.now in
    let s = state_of m.core (g.B.Bus.memory m.shared.bus) m.events in
    let forced = rw (c.forced_type-ty.ensures.is, c.image.ensures.image) at c.in-Ok.ensures.bytes in
    yields_run State (machine_of (program_of a)) (λ _. refl) (λ t end. closing_of (trace_section a (bytes_events t)) end) (MOST_INSTRUCTIONS - c.args.done) _ (λ t end fine. end_of_run end fine)
    (Only (bytes_from_site c.args.number a c.args.done s)) (IsRefusedForcing (force_bytes c.args.number a s).0) _ c.run-end.result _ _ _ _ _ _ _ _ _ _ _
    (λ b. went_on c.args.number a c.args.done s _ forced b) (not_refused c.args.number a c.args.done s _ forced)
    (run_some (program_of a) (MOST_INSTRUCTIONS - c.args.done) _ c.run-end.result _ _ _ _ _ _ (rw c.remaining_budget-machine.ensures at c.run-end.ensures.told))
    c.run-end.ensures.faults.input.rose c.run-end.ensures.faults.out.rose
    c.run-end.ensures.faults.out.later (λ fine e. both_kept c.run-end.result _ _ _ _ c.run-end.ensures.faults.input.kept c.run-end.ensures.faults.out.kept fine) (rw c.events.ensures at c.answer_run.ensures)

pub returns-in-Err : goal.returns-in-Err
returns-in-Err g c =
    let m = c.args.machine.now in
    let a = m.accepted.now in
    let s = state_of m.core (g.B.Bus.memory m.shared.bus) m.events in
    let forced = rw (c.forced_type-ty.ensures.is, c.image.ensures.image) at c.in-Err.ensures.bytes in
    not_unwound c.args.number a c.args.done s c.in-Err.fault _ _ _ _ _ _ _ _ forced (rw c.events-in-Err.ensures at c.answer_unforced.ensures)
