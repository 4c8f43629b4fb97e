use Rattle.std.proofs.Common.{rules, ◌≡◌, ◌∷◌, ◌-◌, ◌∙◌, ap, arith}
use Rattle.std.specs.List.{fold}
use Rattle.eh_types.specs.Graph.{bases_of}
use Rattle.eh_match.specs.declared.path.Path.{Path}
use Rattle.eh_match.specs.Walk.{along, with_path_if_wanted}
use Rattle.eh_match.proofs.Walks.{walked, walk_begun, walk_on}
use Rattle.eh_match.proofs.walk.+walk.Goals as goal

pub loop-base-init : goal.loop-base-init
loop-base-init g t c =
    let e : c.into_iter-base-iterator.result ≡ bases_of c.args.graph.now c.args.path.now.ty = search rules in
    (tt, tt, walk_begun _ _ _ _ _ _ _ _ (omega arith) c.note-seen.ensures e)

pub loop-base-preserved : goal.loop-base-preserved
loop-base-preserved g t c =
    let graph = c.args.graph.now in
    let segments = (g.B.Bus.memory c.args.bus.now).segments in
    let steps : c.loop-base.base-iterator ≡ c.in-Some.base ∷ c.next.new.self = search rules in
    let seen : c.walk-seen.result ≡ fold (with_path_if_wanted graph c.args.wanted) c.loop-base.seen (walked graph segments (c.args.left - 1) (along segments c.args.path.now c.in-Some.base)) =
    c.walk-seen.ensures ∙ ap (λ (p : Path). fold (with_path_if_wanted graph c.args.wanted) c.loop-base.seen (walked graph segments (c.args.left - 1) p)) c.with_step.ensures in
    (tt, tt, walk_on graph segments c.args.wanted c.args.left c.args.path.now c.loop-base.seen c.walk-seen.result c.loop-base.base-iterator c.in-Some.base c.next.new.self _ steps seen c.loop-base.invariant.2)
