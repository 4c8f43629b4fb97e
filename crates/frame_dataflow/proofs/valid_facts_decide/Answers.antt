use Rattle.frame_dataflow.proofs.Ends.{decides}
use Rattle.frame_dataflow.proofs.valid_facts_decide.Goals as goal

pub returns : goal.returns
returns g c = decides g.row.F.Denot g.row.C.Denot g.V.Vagueness.at_most
