use Rattle.frame_laws.proofs.Edges.{all_edges}
use Rattle.frame_laws.proofs.instructions_follow_edges.Goals as goal

pub returns : goal.returns
returns c = all_edges
