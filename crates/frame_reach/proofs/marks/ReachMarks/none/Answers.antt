use Rattle.frame_reach.proofs.Found.{none_are_places}
use Rattle.frame_reach.proofs.marks.ReachMarks.none.Goals as goal

pub invariant_of-result : goal.invariant_of-result
invariant_of-result c = none_are_places c.new.result.items c.new-2.result.items c.new-3.result.items c.new-4.result.items c.new.ensures.items c.new-4.ensures.items
