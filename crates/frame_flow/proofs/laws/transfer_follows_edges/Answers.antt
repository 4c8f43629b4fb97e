use Rattle.frame_flow.proofs.Conditions.{transfer_follows_edges}
use Rattle.frame_flow.proofs.laws.transfer_follows_edges.Goals as goal

pub returns : goal.returns
returns c = transfer_follows_edges
