-- Numbers as expressions, one number on.
use Rattle.std.proofs.Common.{◌≡◌, ℤ, List, [], ◌∷◌, ◌++◌}
use Rattle.std.proofs.lemmas.List.{map_push}
use Rattle.asm_statements.specs.declared.statement.Expr.TheVariants.{Num}
use Rattle.asm_statements.specs.Exprs.{number_exprs}

pub number_after_numbers : (numbers : List ℤ) (n : ℤ) → number_exprs (numbers ++ n ∷ []) ≡ number_exprs numbers ++ Num n ∷ []
number_after_numbers numbers n = map_push (λ m. Num m) numbers n
