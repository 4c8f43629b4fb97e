use Rattle.std.proofs.Common.{length}
use Rattle.gnu_compact.proofs.codes.+push_swapped_words.Given as goal

abbrev pub decreases-push_swapped_words : goal.decreases-push_swapped_words
decreases-push_swapped_words l = length l.words.now
