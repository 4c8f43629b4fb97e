use Rattle.std.proofs.Common.{◌≡◌, ◌≤◌, length}
use Rattle.asm_read.specs.Operands.{list_from}
use Rattle.asm_read.proofs.line.list_from.Given as goal

abbrev pub invariant-loop-left : goal.invariant-loop-left
invariant-loop-left l = (l.at ≤ length l.line) × (list_from l.left l.line l.list l.at ≡ list_from (length l.line) l.line 0 l.from)

abbrev pub decreases-loop-left : goal.decreases-loop-left
decreases-loop-left l = l.left
