use Rattle.std.proofs.Common.{get_or}
use Rattle.std.proofs.lemmas.List.Elements.{Contains-get_or}
use Rattle.frame_reach.specs.Held.{is_set}
use Rattle.frame_check.proofs.Judging.{lowered_next}
use Rattle.frame_check.proofs.marking.mark_lowerings.Goals as goal

pub mark_lowering-requires-clause-low : goal.mark_lowering-requires-clause-low
mark_lowering-requires-clause-low c = c.requires.low (get_or c.args.places.now c.loop-place.place-index 0) (Contains-get_or c.args.places.now c.loop-place.place-index 0 c.loop-place-test.true)

pub loop-place-preserved : goal.loop-place-preserved
loop-place-preserved c =
    lowered_next c.args.flow_graph.now (is_set c.args.reached.now) c.args.places.now c.loop-place.place-index c.args.roles.now c.loop-place.roles c.mark_lowering.new.roles c.loop-place-test.true
    c.loop-place.invariant c.in_ok-mark_lowering.ensures
