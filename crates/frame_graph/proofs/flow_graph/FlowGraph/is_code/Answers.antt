use Rattle.frame_graph.proofs.KeptPlaces.{code_kept}
use Rattle.frame_graph.proofs.flow_graph.FlowGraph.is_code.Goals as goal

pub returns-then-after-self : goal.returns-then-after-self
returns-then-after-self c = code_kept c.args.self.now _ c.self.inside.places.now c.args.a _ c.self.view_is c.self.invariant.2 c.if-a-self.false c.if-after-eq0.true c.if-after-self.true
