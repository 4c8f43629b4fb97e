use Rattle.cmd_perform.proofs.RunReports.{does_task}
use Rattle.cmd_perform.proofs.run.do_task.Goals as goal

pub returns-in-Run : goal.returns-in-Run
returns-in-Run g c = does_task c.args.request c.args.accepted.now _ _ _ _ c.in-Run.is c.run_accepted.ensures

pub returns-in-Walk : goal.returns-in-Walk
returns-in-Walk g c = does_task c.args.request c.args.accepted.now _ _ _ _ c.in-Walk.is c.walk_accepted.ensures

pub returns-in-Force : goal.returns-in-Force
returns-in-Force g c = does_task c.args.request c.args.accepted.now _ _ _ _ c.in-Force.is c.force_accepted.ensures
