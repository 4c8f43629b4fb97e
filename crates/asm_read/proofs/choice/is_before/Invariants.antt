use Rattle.std.proofs.Common.{◌≡◌, drop}
use Rattle.asm_read.specs.Search.{is_before}
use Rattle.asm_read.proofs.choice.is_before.Given as goal

abbrev pub invariant-loop-i : goal.invariant-loop-i
invariant-loop-i l = is_before (drop l.i l.word) (drop l.i l.other) ≡ is_before l.word l.other
