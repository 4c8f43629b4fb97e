use Rattle.std.proofs.Common.{◌≡◌, drop}
use Rattle.asm_read.specs.Plans.{not_plain_at}
use Rattle.asm_read.proofs.plan.not_plain_at.Given as goal

abbrev pub invariant-loop-at : goal.invariant-loop-at
invariant-loop-at l = not_plain_at l.at (drop l.at l.line) ≡ not_plain_at 0 l.line
