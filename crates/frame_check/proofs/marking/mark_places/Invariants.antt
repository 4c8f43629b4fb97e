use Rattle.std.proofs.Common.{take}
use Rattle.frame_check.specs.Marking.{AreInstrs}
use Rattle.frame_check.proofs.marking.mark_places.Given as goal

abbrev pub invariant-loop-place : goal.invariant-loop-place
invariant-loop-place l = AreInstrs l.flow_graph (take l.place-index l.places) l.initial.roles l.roles
