use Rattle.std.proofs.Common.{length}
use Rattle.eh_word.proofs.words.+base_128.Given as goal

abbrev pub decreases-base_128 : goal.decreases-base_128
decreases-base_128 l = length l.bytes.now
