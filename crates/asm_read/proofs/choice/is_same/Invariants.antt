use Rattle.std.proofs.Common.{◌≡◌, drop}
use Rattle.asm_read.specs.Operands.{same}
use Rattle.asm_read.proofs.choice.is_same.Given as goal

abbrev pub invariant-loop-i : goal.invariant-loop-i
invariant-loop-i l = same (drop l.i l.word) (drop l.i l.other) ≡ same l.word l.other
