use Rattle.std.proofs.Common.{refl}
use Rattle.eh_gates.specs.State.{State}
use Rattle.sim_machines.specs.Checked.{program_of}
use Rattle.sim_machines.specs.Start.{start_of}
use Rattle.eh_walk.specs.Reaching.{Onward, state_after, most_events, site_machine}
use Rattle.cmd_perform.specs.BothRuns.{bytes_events}
use Rattle.cmd_perform.specs.WalkReport.{WalksAccepted, accepted_walk, bytes_walk, walk_closing}
use Rattle.cmd_perform.proofs.WalkReports.{status_of_walk, walk_accepted}
use Rattle.cmd_perform.proofs.Yielding.{site_some, both_kept, yields_run, yields_memory}
use Rattle.cmd_perform.proofs.walk.walk_accepted.Goals as goal

pub returns : goal.returns
unfolding accepted_walk
returns g c =
    let a = c.args.accepted.now in
    let end = c.run_to_site-run.result.end in
    yields_run (Onward State) (site_machine (program_of a) c.args.budget) (λ _. refl) (λ o e. walk_closing a (bytes_events o.state) (bytes_walk a o.state) e) (most_events c.args.budget) (state_after 0 (start_of (program_of a)))
    (λ o e fine. status_of_walk a (bytes_events o.state) (bytes_walk a o.state) e fine) (WalksAccepted c.args.budget a) ⊥ _ end _ _ _ _ _ _ _ _ _ _ _
    (λ b. walk_accepted c.args.budget a b c.walks_same.ensures) (λ l. l)
    (site_some (program_of a) c.args.budget (start_of (program_of a)) end _ _ _ _ _ _ (rw (c.in-Ok.ensures.program, c.in-Ok.ensures.budget, c.in-Ok.ensures.state) at c.run_to_site-run.ensures.told))
    c.run_to_site-run.ensures.faults.input.rose c.run_to_site-run.ensures.faults.out.rose
    c.run_to_site-run.ensures.faults.out.later (λ fine e. both_kept end _ _ _ _ c.run_to_site-run.ensures.faults.input.kept c.run_to_site-run.ensures.faults.out.kept fine)
    (rw (c.run_to_site-run.ensures.accepted, c.in-Ok.ensures.program) at c.answer_walk.ensures)

pub returns-in-Err : goal.returns-in-Err
returns-in-Err g c = yields_memory (WalksAccepted c.args.budget c.args.accepted.now) ⊥ _ _ _ _
