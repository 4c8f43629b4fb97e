use Rattle.frame_graph.specs.Reach.{entry}
use Rattle.frame_reach.proofs.Found.{blanks_sound}
use Rattle.frame_reach.proofs.search.start_search.Goals as goal

pub push_place-requires-clause-sound : goal.push_place-requires-clause-sound
push_place-requires-clause-sound c =
    blanks_sound c.args.flow_graph.now c.places-count.result c.clear_marks.new.marks.items c.clear_marks-2.new.marks.items c.clear_marks-3.new.marks.items c.clear.new.self.items c.places-count.ensures.count c.in_ok-clear_marks.ensures c.in_ok-clear_marks-2.ensures c.in_ok-clear_marks-3.ensures c.clear.ensures.items

pub push_place-requires-clause-reached : goal.push_place-requires-clause-reached
push_place-requires-clause-reached c = entry
