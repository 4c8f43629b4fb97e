use Rattle.std.proofs.Common.{refl}
use Rattle.eh_gates.specs.State.{State}
use Rattle.sim_machines.specs.Checked.{program_of}
use Rattle.sim_machines.specs.Start.{start_of}
use Rattle.eh_walk.specs.Reaching.{Onward, state_after, most_events, site_machine}
use Rattle.cmd_perform.specs.BothRuns.{bytes_events}
use Rattle.cmd_perform.specs.ForceReport.{ForcesAccepted, IsUnforced}
use Rattle.cmd_input.specs.Loading.{closing_of}
use Rattle.cmd_perform.specs.RunReport.{trace_section}
use Rattle.cmd_perform.specs.Yields.{RefusedOn}
use Rattle.cmd_perform.proofs.ForceReports.{begun, came, ended_before, forces_on, nothing_unforced}
use Rattle.cmd_perform.proofs.Statuses.{end_of_run}
use Rattle.cmd_perform.proofs.Yielding.{site_some, both_kept, yields_run_by, yields_memory_by}
use Rattle.cmd_perform.proofs.force.force_accepted.Goals as goal

pub returns-in-Budget : goal.returns-in-Budget
returns-in-Budget g c =
    let a = c.args.accepted.now in
    let run = c.run_to_site-run in
    forces_on c.args.number c.args.budget a c.forces_same.ensures _ run.result.done _ _ _ _ _ _ _ _ _ _ _ _ _
    (came c.args.number c.args.budget a c.forces_same.ensures _ run.result.done _ _ _ _ run.result.end c.in-Budget.is (rw (c.in-Ok.ensures.program, c.in-Ok.ensures.budget, c.in-Ok.ensures.state) at run.ensures.told))
    (run.ensures.faults.input.kept (λ e. cc)) (run.ensures.faults.out.kept (λ e. cc))
    (rw (run.ensures.accepted, c.in-Ok.ensures.program) at c.force_and_go_on.ensures)

pub returns : goal.returns
returns g c =
    let a = c.args.accepted.now in
    let end = c.run_to_site-run.result.end in
    yields_run_by (Onward State) (site_machine (program_of a) c.args.budget) (λ _. refl) (λ o e. closing_of (trace_section a (bytes_events o.state)) e) (most_events c.args.budget) (state_after 0 (start_of (program_of a)))
    (λ o e fine. end_of_run e fine) (ForcesAccepted c.args.number c.args.budget a) (RefusedOn (IsUnforced c.args.number c.args.budget a)) _ end _ _ _ _ _ _ _ _ _ _ _
    (begun c.args.number c.args.budget a c.forces_same.ensures)
    (λ b e. ended_before c.args.number c.args.budget a c.forces_same.ensures end b c.in_default.not-Budget e)
    (λ s other e. nothing_unforced c.args.number c.args.budget a c.forces_same.ensures end _ s c.in_default.not-Budget other e)
    (site_some (program_of a) c.args.budget (start_of (program_of a)) end _ _ _ _ _ _ (rw (c.in-Ok.ensures.program, c.in-Ok.ensures.budget, c.in-Ok.ensures.state) at c.run_to_site-run.ensures.told))
    c.run_to_site-run.ensures.faults.input.rose c.run_to_site-run.ensures.faults.out.rose
    c.run_to_site-run.ensures.faults.out.later (λ fine e. both_kept end _ _ _ _ c.run_to_site-run.ensures.faults.input.kept c.run_to_site-run.ensures.faults.out.kept fine)
    (rw c.events.ensures at c.answer_run.ensures)

pub returns-in-Err : goal.returns-in-Err
returns-in-Err g c = yields_memory_by (ForcesAccepted c.args.number c.args.budget c.args.accepted.now) (RefusedOn (IsUnforced c.args.number c.args.budget c.args.accepted.now)) _ _ _ _
