use Rattle.std.proofs.Common.{◌≡◌, drop, false}
use Rattle.asm_read.specs.Tokens.{closing}
use Rattle.asm_read.specs.Capped.{option_plus}
use Rattle.asm_read.proofs.token.text_len.Given as goal

abbrev pub invariant-loop-i : goal.invariant-loop-i
invariant-loop-i l = option_plus l.i (closing l.escaped (drop l.i l.bytes)) ≡ closing false l.bytes
