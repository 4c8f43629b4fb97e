use Rattle.std.proofs.Common.{◌≡◌, map, take}
use Rattle.frame_check.specs.Pushes.{push_saves}
use Rattle.frame_check.proofs.pushes.put_push_saves.Given as goal

abbrev pub invariant-loop-push : goal.invariant-loop-push
invariant-loop-push l = l.into.items ≡ map (push_saves l.p) (take l.push-index l.pushes)
