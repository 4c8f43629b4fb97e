-- Expressions at a place of a line: a grammar by cases on tokens (docs/rules/sources.md, "Directives").
use Rattle.std.specs.Prelude.{ℕ, zero, suc, ◌&&◌, Bool, false, if◌then◌else◌, List, [], ◌∷◌, map, Option, Some, None, Result, Ok, Err, pos, codes}
use Rattle.asm_read.specs.declared.fault.SourceWhat.TheVariants.{NumberRange}
use Rattle.asm_read.specs.declared.token.TokenKind.{TokenKind}
use Rattle.asm_read.specs.declared.token.TokenKind.TheVariants.{Word, Number, Wide}
use Rattle.asm_read.specs.declared.token.Token.{Token}
use Rattle.asm_read.specs.declared.line.Span.{Span}
use Rattle.asm_read.specs.declared.line.LineEnd.{LineEnd}
use Rattle.asm_read.specs.declared.expression.Shape.{Shape}
use Rattle.asm_read.specs.declared.expression.Shape.TheVariants.{Num, Of, Diff, Prel31, Prel31Ref, Target2, Rel}
use Rattle.asm_read.specs.declared.expression.ParsedExpr.{ParsedExpr}
use Rattle.asm_read.specs.declared.expression.ListItem.{ListItem}
use Rattle.asm_statements.specs.declared.statement.Expr.{Expr}
use Rattle.asm_statements.specs.declared.statement.Expr.TheVariants.{Num as NumExpr, Of as OfExpr, Diff as DiffExpr, Prel31 as Prel31Expr, Prel31Ref as Prel31RefExpr, Target2 as Target2Expr, Rel as RelExpr}
use Rattle.asm_read.specs.Tokens.{token_at}
use Rattle.asm_read.specs.Operands.{◌>>=◌, span, stop, end_at_token, bytes_of, same, name_of, is_mark_of, mark_at, name_at, number_at}

abbrev pub parsed_expr : Shape → ℕ → ParsedExpr
parsed_expr shape end = record { shape = shape; end = end }

-- what a word in parentheses after a name means
abbrev pub relation_of : Span → List ℕ → Option Shape
relation_of name word =
    if same word (codes "prel31") then Some (Prel31 name)
    else if same word (codes "prel31ref") then Some (Prel31Ref name)
    else if same word (codes "target2") then Some (Target2 name)
    else if same word (codes "rel") then Some (Rel name)
    else None

abbrev pub read_relation_as : List ℕ → Token → Option Shape → Result ParsedExpr LineEnd
read_relation_as line token None = Err (end_at_token token)
read_relation_as line token (Some shape) = mark_at 41 line token.end >>= (λ end. Ok (parsed_expr shape end))

-- after name(
unfoldable pub read_relation : List ℕ → Span → ℕ → Result ParsedExpr LineEnd
read_relation line name from =
    let token = token_at line from in read_relation_as line token (relation_of name (name_of line token))

-- after name-
unfoldable pub read_difference : List ℕ → Span → ℕ → Result ParsedExpr LineEnd
read_difference line name from =
    name_at line from >>= (λ other.
    let token = token_at line other.end in
    if is_mark_of 43 token.kind
    then number_at line token.end >>= (λ n. Ok (parsed_expr (Diff name other n.value) n.end))
    else Ok (parsed_expr (Diff name other (pos 0)) other.end))

-- after a name
unfoldable pub after_name : Bool → List ℕ → Span → Result ParsedExpr LineEnd
after_name word line name =
    let token = token_at line name.end in
    if is_mark_of 43 token.kind then number_at line token.end >>= (λ n. Ok (parsed_expr (Of name n.value) n.end))
    else if is_mark_of 45 token.kind then read_difference line name token.end
    else if word && is_mark_of 40 token.kind then read_relation line name token.end
    else Ok (parsed_expr (Of name (pos 0)) name.end)

abbrev pub expression_of : Bool → List ℕ → Token → TokenKind → Result ParsedExpr LineEnd
expression_of word line token (Number n) = Ok (parsed_expr (Num n) token.end)
expression_of word line token Wide = Err (stop token.start NumberRange)
expression_of word line token Word = after_name word line (span token.start token.end)
expression_of word line token kind = Err (end_at_token token)

-- a number, name, name+n, a-b, a-b+n, or in a word name(prel31), name(prel31ref), name(target2), name(rel)
unfoldable pub expression_at : Bool → List ℕ → ℕ → Result ParsedExpr LineEnd
expression_at word line from = let token = token_at line from in expression_of word line token token.kind

-- an expression of a directive's list, where a number may have a #
unfoldable pub list_expr_at : Bool → List ℕ → ℕ → Result ParsedExpr LineEnd
list_expr_at word line from =
    let token = token_at line from in
    if is_mark_of 35 token.kind
    then number_at line token.end >>= (λ n. Ok (parsed_expr (Num n.value) n.end))
    else expression_at word line from

-- where the next expression of a list begins: after a comma
abbrev pub next_of : Token → Option ℕ
next_of token = if is_mark_of 44 token.kind then Some token.end else None

abbrev pub item : ParsedExpr → Token → ListItem
item e token = record { shape = e.shape; end = e.end; next = next_of token }

unfoldable pub list_item_at : Bool → List ℕ → ℕ → Result ListItem LineEnd
list_item_at word line from = list_expr_at word line from >>= (λ e. Ok (item e (token_at line e.end)))

-- expressions one after another, and the place after them
pub record Series : Type 0 where
  pub shapes : List Shape
  pub end : ℕ

abbrev pub expr_series : List Shape → ℕ → Series
expr_series shapes end = record { shapes = shapes; end = end }

-- an expression, and those after it if there are any
abbrev pub and_more : ListItem → Option ℕ → (ℕ → Result Series LineEnd) → Result Series LineEnd
and_more i None more = Ok (expr_series (i.shape ∷ []) i.end)
and_more i (Some at) more = more at >>= (λ rest. Ok (expr_series (i.shape ∷ rest.shapes) rest.end))

-- the comma-separated expressions that begin at a place; at most n
unfoldable pub expressions_at : ℕ → Bool → List ℕ → ℕ → Result Series LineEnd
expressions_at zero word line from = Err (end_at_token (token_at line from))
expressions_at (suc n) word line from =
    list_item_at word line from >>= (λ i. and_more i i.next (λ at. expressions_at n word line at))

-- the place after them
abbrev pub end_of : Result Series LineEnd → Result ℕ LineEnd
end_of r = r >>= (λ s. Ok s.end)

abbrev pub expr_of : List ℕ → Shape → Expr
expr_of line (Num n) = NumExpr n
expr_of line (Of a n) = OfExpr (bytes_of line a) n
expr_of line (Diff a b n) = DiffExpr (bytes_of line a) (bytes_of line b) n
expr_of line (Prel31 a) = Prel31Expr (bytes_of line a)
expr_of line (Prel31Ref a) = Prel31RefExpr (bytes_of line a)
expr_of line (Target2 a) = Target2Expr (bytes_of line a)
expr_of line (Rel a) = RelExpr (bytes_of line a)

-- the expression that was read; 0 if none was
abbrev pub expr_or_zero : List ℕ → Result ParsedExpr LineEnd → Expr
expr_or_zero line (Ok e) = expr_of line e.shape
expr_or_zero line (Err s) = NumExpr (pos 0)

unfoldable pub expr_from : List ℕ → ℕ → Expr
expr_from line from = expr_or_zero line (expression_at false line from)

-- the expressions of a list; empty if it is no list
abbrev pub exprs_of : List ℕ → Result Series LineEnd → List Expr
exprs_of line (Ok s) = map (expr_of line) s.shapes
exprs_of line (Err s) = []
