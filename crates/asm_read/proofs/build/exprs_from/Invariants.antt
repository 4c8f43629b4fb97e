use Rattle.std.proofs.Common.{◌≡◌, ◌≤◌, length}
use Rattle.asm_read.specs.Expressions.{expressions_at, exprs_of}
use Rattle.asm_read.proofs.Steps.{joined}
use Rattle.asm_read.proofs.build.exprs_from.Given as goal

abbrev pub invariant-loop-left : goal.invariant-loop-left
invariant-loop-left l = (l.at ≤ length l.line) × (joined l.line l.exprs (expressions_at l.left l.word l.line l.at) ≡ exprs_of l.line (expressions_at (length l.line) l.word l.line l.from))

abbrev pub decreases-loop-left : goal.decreases-loop-left
decreases-loop-left l = l.left
