use Rattle.std.proofs.Common.{◌≡◌, ◌++◌, drop}
use Rattle.asm_statements.specs.Exprs.{number_exprs}
use Rattle.asm_statements.proofs.exprs.exprs_of_numbers.Given as goal

abbrev pub invariant-loop-n : goal.invariant-loop-n
invariant-loop-n l = l.exprs.items ++ number_exprs (drop l.n-index l.numbers) ≡ number_exprs l.numbers
