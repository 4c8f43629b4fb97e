use Rattle.std.proofs.Common.{get_or}
use Rattle.std.proofs.lemmas.List.Elements.{Contains-get_or}
use Rattle.frame_check.proofs.Judging.{instrs_next}
use Rattle.frame_check.proofs.marking.mark_places.Goals as goal

pub address_of-requires : goal.address_of-requires
address_of-requires c = c.requires.low (get_or c.args.places.now c.loop-place.place-index 0) (Contains-get_or c.args.places.now c.loop-place.place-index 0 c.loop-place-test.true)

pub loop-place-preserved : goal.loop-place-preserved
loop-place-preserved c =
    instrs_next c.args.flow_graph.now c.args.places.now c.loop-place.place-index c.address_of.result c.args.roles.now c.loop-place.roles c.mark_instr.new.roles c.loop-place-test.true c.loop-place.invariant
    c.address_of.ensures c.in_ok-mark_instr.ensures
