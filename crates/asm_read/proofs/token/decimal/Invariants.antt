use Rattle.std.proofs.Common.{◌≡◌, ◌≤◌, drop}
use Rattle.asm_read.specs.declared.token.TheConstants.{MANY}
use Rattle.asm_read.specs.Tokens.{decimal_digit}
use Rattle.asm_read.specs.Capped.{capped_number_from}
use Rattle.asm_read.proofs.token.decimal.Given as goal

abbrev pub invariant-loop-b : goal.invariant-loop-b
invariant-loop-b l = (l.n ≤ MANY) × (capped_number_from decimal_digit 10 l.n (drop l.b-index l.digits) ≡ capped_number_from decimal_digit 10 0 l.digits)
