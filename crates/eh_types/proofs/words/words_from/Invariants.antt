use Rattle.std.proofs.Common.{◌≡◌, ◌<◌, ◌^◌}
use Rattle.eh_types.specs.Words.{words_from, any_writable}
use Rattle.eh_types.proofs.words.words_from.Given as goal

abbrev pub invariant-loop-left : goal.invariant-loop-left
invariant-loop-left l = (words_from l.image.segments l.a l.count ≡ any_writable l.writable (words_from l.image.segments l.at l.left)) × (l.at < 2 ^ 32)

abbrev pub decreases-loop-left : goal.decreases-loop-left
decreases-loop-left l = l.left
