-- The expressions of a list, however they are stored.
use Rattle.std.specs.Prelude.{ℤ, List, map}
use Rattle.asm_statements.specs.declared.statement.Expr.{Expr}
use Rattle.asm_statements.specs.declared.statement.Expr.TheVariants.{Num}
use Rattle.asm_statements.specs.declared.exprs.ExprStorage.{ExprStorage}
use Rattle.asm_statements.specs.declared.exprs.ExprStorage.TheVariants as held
use Rattle.asm_statements.specs.declared.exprs.ExprsRef.{ExprsRef}
use Rattle.asm_statements.specs.declared.exprs.ExprsRef.TheVariants as lent

-- numbers as expressions
abbrev pub number_exprs : List ℤ → List Expr
number_exprs numbers = map (λ n. Num n) numbers

abbrev pub storage_exprs : ExprStorage → List Expr
storage_exprs (held.Numbers numbers) = number_exprs numbers.items
storage_exprs (held.Mixed exprs) = exprs.items

abbrev pub lent_exprs : ExprsRef → List Expr
lent_exprs (lent.Numbers numbers) = number_exprs numbers.now
lent_exprs (lent.Mixed exprs) = exprs.now
