use Rattle.frame_dataflow.proofs.Law.{bounds}
use Rattle.frame_dataflow.proofs.valid_facts_bound.Goals as goal

pub returns : goal.returns
returns g c = bounds g.row.F.Denot g.row.C.Denot g.V.Vagueness.at_most
