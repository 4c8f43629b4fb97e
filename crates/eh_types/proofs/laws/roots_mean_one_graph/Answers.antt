use Rattle.eh_types.proofs.Meaning.{meant_same}
use Rattle.eh_types.proofs.laws.roots_mean_one_graph.Goals as goal

pub returns : goal.returns
returns c = meant_same
