use Rattle.run_events.proofs.RunLaws.{splits}
use Rattle.run_events.proofs.runs_split.Goals as goal

pub returns : goal.returns
returns g c = splits g.row.S.Denot g.row.E.Denot
