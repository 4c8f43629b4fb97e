use Rattle.run_events.proofs.RunLaws.{spends}
use Rattle.run_events.proofs.runs_spend.Goals as goal

pub returns : goal.returns
returns g c = spends g.row.S.Denot g.row.E.Denot
