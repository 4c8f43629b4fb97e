use Rattle.std.proofs.Common.{◌≡◌, ◌≤◌, length}
use Rattle.asm_read.specs.Expressions.{expressions_at, end_of}
use Rattle.asm_read.proofs.expression.expressions_end.Given as goal

abbrev pub invariant-loop-left : goal.invariant-loop-left
invariant-loop-left l = (l.at ≤ length l.line) × (end_of (expressions_at l.left l.word l.line l.at) ≡ end_of (expressions_at (length l.line) l.word l.line l.from))

abbrev pub decreases-loop-left : goal.decreases-loop-left
decreases-loop-left l = l.left
