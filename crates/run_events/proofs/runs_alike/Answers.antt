use Rattle.run_events.proofs.RunLaws.{runs_alike}
use Rattle.run_events.proofs.runs_alike.Goals as goal

pub returns : goal.returns
returns g c = λ one two spent s t input alike r. runs_alike g.row.S.Denot g.row.T.Denot g.row.E.Denot g.R.Relates.related one two spent alike s t input r
