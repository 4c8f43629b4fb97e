use Rattle.std.proofs.Common.{length}
use Rattle.gnu_lsda.proofs.leb128.+span.Given as goal

abbrev pub decreases-span : goal.decreases-span
decreases-span l = length l.bytes.now
