use Rattle.eh_types.proofs.Meaning.{fault_no_graph}
use Rattle.eh_types.proofs.laws.faults_have_no_graph.Goals as goal

pub returns : goal.returns
returns c = fault_no_graph
