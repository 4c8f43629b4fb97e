use Rattle.std.proofs.Common.{[]}
use Rattle.frame_graph.specs.SiteCaching.{IsStretch}
use Rattle.frame_flow.specs.Framed.{framed_view}
use Rattle.frame_flow.specs.Work.{IsSound, load}
use Rattle.frame_flow.proofs.work.solve_in.Given as goal

abbrev pub invariant-loop-place : goal.invariant-loop-place
invariant-loop-place l = record { sound : IsSound (framed_view l.x) l.room.facts l.room.work.items []; stretch : IsStretch l.x.flow_graph l.room.stretch }

abbrev pub decreases-loop-place : goal.decreases-loop-place
decreases-loop-place l = load (framed_view l.x) l.room.facts l.room.work.items
