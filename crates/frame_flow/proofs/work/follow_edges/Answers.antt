use Rattle.std.proofs.Common.{ℕ, ◌≡◌, List, [], map, drop, get_or, ap, subst, refl, arith}
use Rattle.std.proofs.lemmas.List.{drop_all}
use Rattle.frame_facts.specs.declared.facts.Fact.{Fact}
use Rattle.frame_graph.specs.declared.edges.Edge.{Edge}
use Rattle.frame_flow.specs.Framed.{framed_view}
use Rattle.frame_flow.specs.Flows.{along_edge}
use Rattle.frame_flow.specs.Work.{IsSound}
use Rattle.frame_flow.proofs.Merging.{next_transfer, transfer_within, merged_keeps}
use Rattle.frame_flow.proofs.work.follow_edges.Goals as goal

abbrev none : Edge
none = record { to = 0; clobbers = 0 }

pub follow_edge-requires : goal.follow_edge-requires
follow_edge-requires c =
    let x = framed_view c.args.x.now in
    let s = next_transfer x c.loop-edge.facts c.loop-edge.work.items c.args.fact.now c.args.edges.now c.loop-edge.edge-index none _ c.loop-edge-test.true refl c.loop-edge.invariant.sound in
    omega (arith, transfer_within x c.loop-edge.facts c.loop-edge.work.items (get_or c.args.edges.now c.loop-edge.edge-index none).to _ _ s)

pub returns-in-Err : goal.returns-in-Err
returns-in-Err c =
    let x = framed_view c.args.x.now in
    let s = next_transfer x c.loop-edge.facts c.loop-edge.work.items c.args.fact.now c.args.edges.now c.loop-edge.edge-index none _ c.loop-edge-test.true refl c.loop-edge.invariant.sound in
    merged_keeps x _ _ _ _ _ _ _ _ c.in-Err.ensures s

pub loop-edge-preserved : goal.loop-edge-preserved
loop-edge-preserved c =
    let x = framed_view c.args.x.now in
    let s = next_transfer x c.loop-edge.facts c.loop-edge.work.items c.args.fact.now c.args.edges.now c.loop-edge.edge-index none _ c.loop-edge-test.true refl c.loop-edge.invariant.sound in
    let k = merged_keeps x _ _ _ _ _ _ _ _ c.in-Ok.ensures s in
    record { sound = k.0; lighter = omega (arith, k.1, c.loop-edge.invariant.lighter) }

pub returns : goal.returns
returns c =
    let done : map (along_edge c.args.fact.now) (drop c.loop-edge.edge-index c.args.edges.now) ≡ [] =
    ap (map (along_edge c.args.fact.now)) (drop_all c.loop-edge.edge-index c.args.edges.now c.loop-edge-test.false)
    in (
      subst (λ (todo : List (ℕ × Fact)). IsSound (framed_view c.args.x.now) c.loop-edge.facts c.loop-edge.work.items todo) done c.loop-edge.invariant.sound,
      c.loop-edge.invariant.lighter,
    )
