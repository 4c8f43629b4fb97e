use Rattle.frame_dataflow.proofs.Ends.{solves}
use Rattle.frame_dataflow.proofs.solving_gives_states.Goals as goal

pub returns : goal.returns
returns g c = solves g.row.F.Denot g.row.C.Denot g.V.Vagueness.at_most
