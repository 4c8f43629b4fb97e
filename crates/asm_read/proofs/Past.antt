-- Past a line's end stands nothing.
use Rattle.std.proofs.Common.{◌≡◌, ℕ, ◌<◌, ◌≤◌, zero, suc, Bool, false, List, [], length, Err, refl, arith, pos, add-zero}
use Rattle.std.proofs.lemmas.List.{drop_all}
use Rattle.asm_read.specs.declared.token.TokenKind.TheVariants.{End}
use Rattle.asm_statements.specs.declared.statement.Expr.TheVariants.{Num}
use Rattle.asm_read.specs.Tokens.{token_at, token, front_of}
use Rattle.asm_read.specs.Operands.{end_at_token}
use Rattle.asm_read.specs.Expressions.{expression_at, list_expr_at, list_item_at, expressions_at, expr_from, exprs_of}

token_past : (line : List ℕ) (from : ℕ) → length line ≤ from → token_at line from ≡ token from from End
unfolding token_at front_of
token_past line from h = simp (drop_all from line h, add-zero)

expression_past : (word : Bool) (line : List ℕ) (from : ℕ) → length line ≤ from → expression_at word line from ≡ Err (end_at_token (token from from End))
unfolding expression_at
expression_past word line from h = rw (token_past line from h)

pub expr_past : (line : List ℕ) (from : ℕ) → length line < from → expr_from line from ≡ Num (pos 0)
unfolding expr_from
expr_past line from h = rw (expression_past false line from (omega arith))

pub exprs_past : (n : ℕ) (word : Bool) (line : List ℕ) (from : ℕ) → length line < from → exprs_of line (expressions_at n word line from) ≡ []
unfolding expressions_at list_item_at list_expr_at
exprs_past zero word line from h = refl
exprs_past (suc n) word line from h =
    let within : length line ≤ from = omega arith in rw (token_past line from within, expression_past word line from within)
