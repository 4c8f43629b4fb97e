use Rattle.eh_types.proofs.Meaning.{fault_no_graph}
use Rattle.eh_types.proofs.graph.TypeGraph.read.Goals as goal

pub returns-in-Err-clause-none : goal.returns-in-Err-clause-none
returns-in-Err-clause-none c = λ other. fault_no_graph c.args.image.now c.args.roots.now c.in-Err.fault (c.in-Err.ensures.shown other)
