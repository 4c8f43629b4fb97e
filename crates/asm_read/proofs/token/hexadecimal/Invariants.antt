use Rattle.std.proofs.Common.{◌≡◌, ◌≤◌, drop}
use Rattle.asm_read.specs.declared.token.TheConstants.{MANY}
use Rattle.asm_read.specs.Tokens.{hex_digit}
use Rattle.asm_read.specs.Capped.{capped_number_from}
use Rattle.asm_read.proofs.token.hexadecimal.Given as goal

abbrev pub invariant-loop-b : goal.invariant-loop-b
invariant-loop-b l = (l.n ≤ MANY) × (capped_number_from hex_digit 16 l.n (drop l.b-index l.digits) ≡ capped_number_from hex_digit 16 0 l.digits)
