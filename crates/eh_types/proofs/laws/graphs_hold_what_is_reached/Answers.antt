use Rattle.eh_types.proofs.Meaning.{meant_held}
use Rattle.eh_types.proofs.laws.graphs_hold_what_is_reached.Goals as goal

pub returns : goal.returns
returns c = meant_held
