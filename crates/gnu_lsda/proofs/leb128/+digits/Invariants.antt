use Rattle.std.proofs.Common.{length}
use Rattle.gnu_lsda.proofs.leb128.+digits.Given as goal

abbrev pub decreases-digits : goal.decreases-digits
decreases-digits l = length l.bytes.now
