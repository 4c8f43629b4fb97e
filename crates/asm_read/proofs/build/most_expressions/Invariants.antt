use Rattle.std.proofs.Common.{◌≡◌, ◌+◌, ◌==◌, drop, count_by}
use Rattle.asm_read.proofs.build.most_expressions.Given as goal

abbrev pub invariant-loop-b : goal.invariant-loop-b
invariant-loop-b l = l.most + count_by (λ b. b == 44) (drop l.b-index l.bytes) ≡ count_by (λ b. b == 44) l.bytes + 1
