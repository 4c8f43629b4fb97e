-- One item of a list, counted down.
use Rattle.std.proofs.Common.{◌≡◌, ℕ, ◌-◌, ◌<◌, ◌≤◌, Bool, List, [], ◌∷◌, ◌++◌, append_assoc, if◌then◌else◌, map, Some, None, Result, Ok, Err, bit_or, arith}
use Rattle.asm_read.specs.Expressions.{list_item_at, Series, expressions_at, end_of, expr_of, exprs_of}
use Rattle.asm_read.specs.declared.expression.ListItem.{ListItem}
use Rattle.asm_statements.specs.declared.statement.Expr.{Expr}
use Rattle.asm_read.specs.declared.line.LineEnd.{LineEnd}
use Rattle.asm_read.specs.Tokens.{token_at}
use Rattle.asm_read.specs.Operands.{◌>>=◌, end_at_token, is_mark_of, register_mask, item_at, list_from}

pub list_step : (n : ℕ) (line : List ℕ) (list from : ℕ) → 0 < n → list_from n line list from ≡ (item_at line from >>= (λ item.
    let token = token_at line item.end in
    let all = bit_or list (register_mask item.low item.high) in
    if is_mark_of 125 token.kind then Ok (record { list = all; close = token.start; end = token.end })
    else if is_mark_of 44 token.kind then list_from (n - 1) line all token.end
    else Err (end_at_token token)))
unfolding list_from
list_step n line list from h = grind arith

pub list_none : (n : ℕ) (line : List ℕ) (list from : ℕ) → n ≤ 0 → list_from n line list from ≡ Err (end_at_token (token_at line from))
unfolding list_from
list_none n line list from h = grind arith

-- expressions that were read, with those of the rest; none where the rest is no list
abbrev pub joined : List ℕ → List Expr → Result Series LineEnd → List Expr
joined line out (Ok s) = out ++ map (expr_of line) s.shapes
joined line out (Err s) = []

pub joined_none : (line : List ℕ) (r : Result Series LineEnd) → joined line [] r ≡ exprs_of line r
joined_none line r = grind arith

module _ (n : ℕ) (word : Bool) (line : List ℕ) (from : ℕ) where
  -- the place after a list
  pub end_stop : (s : LineEnd) → 0 < n → list_item_at word line from ≡ Err s → end_of (expressions_at n word line from) ≡ Err s
  unfolding expressions_at
  end_stop s some h = grind arith

  pub end_last : (i : ListItem) → 0 < n → list_item_at word line from ≡ Ok i → i.next ≡ None → end_of (expressions_at n word line from) ≡ Ok i.end
  unfolding expressions_at
  end_last i some h e = grind arith

  pub end_more : (i : ListItem) (next : ℕ) → 0 < n → list_item_at word line from ≡ Ok i → i.next ≡ Some next → end_of (expressions_at n word line from) ≡ end_of (expressions_at (n - 1) word line next)
  unfolding expressions_at
  end_more i next some h e = grind arith

  pub end_none : n ≤ 0 → end_of (expressions_at n word line from) ≡ Err (end_at_token (token_at line from))
  unfolding expressions_at
  end_none h = grind arith

  pub joined_stop : (out : List Expr) (s : LineEnd) → 0 < n → list_item_at word line from ≡ Err s → joined line out (expressions_at n word line from) ≡ []
  unfolding expressions_at
  joined_stop out s some h = grind arith

  pub joined_last : (out : List Expr) (i : ListItem) → 0 < n → list_item_at word line from ≡ Ok i → i.next ≡ None → joined line out (expressions_at n word line from) ≡ out ++ expr_of line i.shape ∷ []
  unfolding expressions_at
  joined_last out i some h e = grind arith

  pub joined_more : (out : List Expr) (i : ListItem) (next : ℕ) → 0 < n → list_item_at word line from ≡ Ok i → i.next ≡ Some next → joined line out (expressions_at n word line from) ≡ joined line (out ++ expr_of line i.shape ∷ []) (expressions_at (n - 1) word line next)
  unfolding expressions_at
  joined_more out i next some h e = grind (arith, append_assoc)

  pub joined_end : (out : List Expr) → n ≤ 0 → joined line out (expressions_at n word line from) ≡ []
  unfolding expressions_at
  joined_end out none = grind arith
