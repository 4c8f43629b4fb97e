use Rattle.std.proofs.Common.{subst}
use Rattle.frame_facts.specs.declared.facts.Fact.{Fact}
use Rattle.frame_flow.specs.Framed.{framed_view}
use Rattle.frame_flow.specs.Work.{MergesFact}
use Rattle.frame_flow.proofs.work.follow_edge.Goals as goal

pub returns-else-edge-eq0 : goal.returns-else-edge-eq0
returns-else-edge-eq0 c =
    subst
    (λ (g : Fact). MergesFact (framed_view c.args.x.now) c.args.facts.now c.args.work.now.items c.args.edge.now.to g c.merge-else-edge-eq0.new.facts c.merge-else-edge-eq0.new.work.items c.merge-else-edge-eq0.result)
    c.clobber.ensures c.merge-else-edge-eq0.ensures
