use Rattle.std.proofs.Common.{take}
use Rattle.frame_reach.specs.Held.{is_set}
use Rattle.frame_check.specs.Marking.{AreLowered}
use Rattle.frame_check.proofs.marking.mark_lowerings.Given as goal

abbrev pub invariant-loop-place : goal.invariant-loop-place
invariant-loop-place l = AreLowered l.flow_graph (is_set l.reached) (take l.place-index l.places) l.initial.roles l.roles
