use Rattle.std.proofs.Common.{take}
use Rattle.frame_check.specs.Marking.{AreSaved}
use Rattle.frame_check.proofs.marking.mark_pushes.Given as goal

abbrev pub invariant-loop-push : goal.invariant-loop-push
invariant-loop-push l = AreSaved (take l.push-index l.pushes) l.initial.roles l.roles
