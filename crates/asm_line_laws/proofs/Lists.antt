-- Register lists and expressions as tokens, and that the reader reads them.
use Rattle.std.proofs.Common.{◌≡◌, ℕ, zero, suc, ◌<◌, ◌≤◌, ◌==◌, ◌&&◌, Bool, true, false, List, [], ◌∷◌, map, length, Some, None, Ok, ℤ, pos, negsuc, bit_or, refl, ap, ◌∙◌, arith, codes}
use Rattle.asm_read.specs.declared.line.Span.{Span}
use Rattle.asm_read.specs.declared.line.ListRegisters.{ListRegisters}
use Rattle.asm_read.specs.declared.token.TokenKind.{TokenKind}
use Rattle.asm_read.specs.declared.expression.Shape.TheVariants as shape
use Rattle.asm_read.specs.declared.expression.ParsedExpr.{ParsedExpr}
use Rattle.asm_read.specs.declared.expression.ListItem.{ListItem}
use Rattle.asm_statements.specs.declared.statement.Expr.{Expr}
use Rattle.asm_statements.specs.declared.statement.Expr.TheVariants.{Num, Of, Diff, Prel31, Prel31Ref, Target2, Rel}
use Rattle.asm_read.specs.Tokens.{token_at}
use Rattle.asm_read.specs.Operands.{◌>>=◌, span, bytes_of, is_mark_of, register_mask, item_at, list_from, list_at}
use Rattle.asm_read.specs.Expressions.{parsed_expr, relation_of, read_relation, read_difference, after_name, expression_of, expression_at, list_expr_at, item, list_item_at, Series, expr_series, and_more, expressions_at, expr_of}
use Rattle.asm_line_laws.proofs.Toks.{Tok, reg, word, num, sign, head_kind, Reads}
use Rattle.asm_line_laws.proofs.Heads.{head_of, name_bytes, register_heads, mark_heads, name_heads, number_heads}

-- ---- register lists

-- after an opening brace
abbrev pub list_toks : List ℕ → List Tok → List Tok
list_toks [] rest = sign 125 ∷ rest
list_toks (r ∷ []) rest = reg r ∷ sign 125 ∷ rest
list_toks (r ∷ s ∷ rs) rest = reg r ∷ sign 44 ∷ list_toks (s ∷ rs) rest

-- the registers of a list as bits, with those before them
abbrev pub masked : ℕ → List ℕ → ℕ
masked all [] = all
masked all (r ∷ rs) = masked (bit_or all (register_mask r r)) rs

item_reads : (line : List ℕ) (from r b : ℕ) (ts : List Tok) (h : Reads line from (reg r ∷ sign b ∷ ts)) → (45 == b) ≡ false → item_at line from ≡ Ok (record { low = r; high = r; end = h.0.end })
unfolding item_at
item_reads line from r b ts h e =
    rw (register_heads line from (reg r ∷ sign b ∷ ts) h.0 h.1, h.2.1.is, h.2.1.kind, e) refl

list_reads : (n : ℕ) (line : List ℕ) (all from r : ℕ) (rs : List ℕ) (rest : List Tok) → length (list_toks (r ∷ rs) rest) ≤ n → Reads line from (list_toks (r ∷ rs) rest) → (l : ListRegisters) × (list_from n line all from ≡ Ok l) × (l.list ≡ masked all (r ∷ rs)) × Reads line l.end rest
unfolding list_from
list_reads zero line all from r [] rest few h = absurd (omega arith)
list_reads zero line all from r (s ∷ rs) rest few h = absurd (omega arith)
list_reads (suc n) line all from r [] rest few h =
    let close = h.2.0 in (
      record { list = bit_or all (register_mask r r); close = close.start; end = close.end },
      rw (item_reads line from r 125 rest h refl, h.2.1.is, h.2.1.kind) refl,
      refl,
      h.2.2,
    )
list_reads (suc n) line all from r (s ∷ rs) rest few h =
    let more = list_reads n line (bit_or all (register_mask r r)) h.2.0.end s rs rest (omega arith) h.2.2 in (
      more.0,
      rw (item_reads line from r 44 (list_toks (s ∷ rs) rest) h refl, h.2.1.is, h.2.1.kind) more.1,
      more.2,
      more.3,
    )

-- after an opening brace, where no brace closes it at once
opened : (line : List ℕ) (from : ℕ) (ts : List Tok) (h : Reads line from (sign 123 ∷ ts)) → is_mark_of 125 (head_kind ts) ≡ false → list_at line from ≡ list_from (length line) line 0 h.0.end
unfolding list_at
opened line from ts h e =
    let next = head_of line h.0.end ts h.2 in
    rw (mark_heads 123 line from (sign 123 ∷ ts) h.0 h.1, next.1.is, next.1.kind, e) refl

-- a register list in braces
pub listed_reads : (line : List ℕ) (from : ℕ) (rs : List ℕ) (rest : List Tok) → Reads line from (sign 123 ∷ list_toks rs rest) → (l : ListRegisters) × (list_at line from ≡ Ok l) × (l.list ≡ masked 0 rs) × Reads line l.end rest
unfolding list_at
listed_reads line from [] rest h =
    let close = h.2.0 in (
      record { list = 0; close = close.start; end = close.end },
      rw (mark_heads 123 line from (sign 123 ∷ sign 125 ∷ rest) h.0 h.1, h.2.1.is, h.2.1.kind) refl,
      refl,
      h.2.2,
    )
listed_reads line from (r ∷ []) rest h =
    let few = h.1.few in
    let more = list_reads (length line) line 0 h.0.end r [] rest (omega arith) h.2 in
    (more.0, opened line from (list_toks (r ∷ []) rest) h refl ∙ more.1, more.2, more.3)
listed_reads line from (r ∷ s ∷ rs) rest h =
    let few = h.1.few in
    let more = list_reads (length line) line 0 h.0.end r (s ∷ rs) rest (omega arith) h.2 in
    (more.0, opened line from (list_toks (r ∷ s ∷ rs) rest) h refl ∙ more.1, more.2, more.3)

-- ---- expressions

abbrev pub plus_toks : ℤ → List Tok → List Tok
plus_toks (pos zero) rest = rest
plus_toks (pos (suc n)) rest = sign 43 ∷ num (pos (suc n)) ∷ rest
plus_toks (negsuc n) rest = sign 43 ∷ num (negsuc n) ∷ rest

abbrev pub relation_toks : List ℕ → List ℕ → List Tok → List Tok
relation_toks a w rest = word a ∷ sign 40 ∷ word w ∷ sign 41 ∷ rest

abbrev pub expr_toks : Expr → List Tok → List Tok
expr_toks (Num z) rest = num z ∷ rest
expr_toks (Of a n) rest = word a ∷ plus_toks n rest
expr_toks (Diff a b n) rest = word a ∷ sign 45 ∷ word b ∷ plus_toks n rest
expr_toks (Prel31 a) rest = relation_toks a (codes "prel31") rest
expr_toks (Prel31Ref a) rest = relation_toks a (codes "prel31ref") rest
expr_toks (Target2 a) rest = relation_toks a (codes "target2") rest
expr_toks (Rel a) rest = relation_toks a (codes "rel") rest

-- names with a word in parentheses stand in words alone
abbrev pub Stands : Bool → Expr → Type 0
Stands w (Num z) = Unit {0}
Stands w (Of a n) = Unit {0}
Stands w (Diff a b n) = Unit {0}
Stands w (Prel31 a) = w ≡ true
Stands w (Prel31Ref a) = w ≡ true
Stands w (Target2 a) = w ≡ true
Stands w (Rel a) = w ≡ true

-- no expression goes on here
pub record Over (ts : List Tok) : Type 0 where
  pub plus : is_mark_of 43 (head_kind ts) ≡ false
  pub minus : is_mark_of 45 (head_kind ts) ≡ false
  pub open_mark : is_mark_of 40 (head_kind ts) ≡ false

and_none : (b : Bool) → (b && false) ≡ false
and_none true = refl
and_none false = refl

name_alone : (w : Bool) (line : List ℕ) (name : Span) (rest : List Tok) → Over rest → Reads line name.end rest → after_name w line name ≡ Ok (parsed_expr (shape.Of name (pos 0)) name.end)
unfolding after_name
name_alone w line name rest o h =
    let next = head_of line name.end rest h in
    let none = and_none w in
    rw (next.1.is, next.1.kind, o.plus, o.minus, o.open_mark, none) refl

name_plus : (w : Bool) (line : List ℕ) (name : Span) (n : ℤ) (rest : List Tok) (h : Reads line name.end (sign 43 ∷ num n ∷ rest)) → after_name w line name ≡ Ok (parsed_expr (shape.Of name n) h.2.0.end)
unfolding after_name
name_plus w line name n rest h =
    rw (h.1.is, h.1.kind, number_heads line h.0.end (num n ∷ rest) h.2.0 h.2.1) refl

name_minus : (w : Bool) (line : List ℕ) (name : Span) (ts : List Tok) (h : Reads line name.end (sign 45 ∷ ts)) → after_name w line name ≡ read_difference line name h.0.end
unfolding after_name
name_minus w line name ts h = rw (h.1.is, h.1.kind) refl

name_open : (line : List ℕ) (name : Span) (ts : List Tok) (h : Reads line name.end (sign 40 ∷ ts)) → after_name true line name ≡ read_relation line name h.0.end
unfolding after_name
name_open line name ts h = rw (h.1.is, h.1.kind) refl

difference_alone : (line : List ℕ) (name : Span) (from : ℕ) (b : List ℕ) (rest : List Tok) (h : Reads line from (word b ∷ rest)) → Over rest → read_difference line name from ≡ Ok (parsed_expr (shape.Diff name (span h.0.start h.0.end) (pos 0)) h.0.end)
unfolding read_difference
difference_alone line name from b rest h o =
    let next = head_of line h.0.end rest h.2 in
    rw (name_heads line from (word b ∷ rest) h.0 h.1, next.1.is, next.1.kind, o.plus) refl

difference_plus : (line : List ℕ) (name : Span) (from : ℕ) (b : List ℕ) (n : ℤ) (rest : List Tok) (h : Reads line from (word b ∷ sign 43 ∷ num n ∷ rest)) → read_difference line name from ≡ Ok (parsed_expr (shape.Diff name (span h.0.start h.0.end) n) h.2.2.0.end)
unfolding read_difference
difference_plus line name from b n rest h =
    rw (name_heads line from (word b ∷ sign 43 ∷ num n ∷ rest) h.0 h.1, h.2.1.is, h.2.1.kind, number_heads line h.2.0.end (num n ∷ rest) h.2.2.0 h.2.2.1) refl

related_reads : (line : List ℕ) (name : Span) (from : ℕ) (w : List ℕ) (s : shape.the_data) (rest : List Tok) (h : Reads line from (word w ∷ sign 41 ∷ rest)) → relation_of name w ≡ Some s → read_relation line name from ≡ Ok (parsed_expr s h.2.0.end)
unfolding read_relation
related_reads line name from w s rest h e =
    rw (h.1.is, h.1.name, e, mark_heads 41 line h.0.end (sign 41 ∷ rest) h.2.0 h.2.1) refl

-- what stands at a place is this expression, and after it these tokens
abbrev pub ReadsExpr : Bool → List ℕ → ℕ → Expr → List Tok → Type 0
ReadsExpr w line from e rest = (s : ParsedExpr) × (expression_at w line from ≡ Ok s) × (expr_of line s.shape ≡ e) × Reads line s.end rest

at_name : (w : Bool) (line : List ℕ) (from : ℕ) (a : List ℕ) (ts : List Tok) (h : Reads line from (word a ∷ ts)) → expression_at w line from ≡ after_name w line (span h.0.start h.0.end)
unfolding expression_at
at_name w line from a ts h = ap (λ t. expression_of w line t t.kind) h.1.is ∙ ap (expression_of w line h.0) h.1.kind

at_number : (w : Bool) (line : List ℕ) (from : ℕ) (z : ℤ) (ts : List Tok) (h : Reads line from (num z ∷ ts)) → expression_at w line from ≡ Ok (parsed_expr (shape.Num z) h.0.end)
unfolding expression_at
at_number w line from z ts h = ap (λ t. expression_of w line t t.kind) h.1.is ∙ ap (expression_of w line h.0) h.1.kind

plus_reads : (w : Bool) (line : List ℕ) (from : ℕ) (a : List ℕ) (n : ℤ) (rest : List Tok) → Reads line from (word a ∷ sign 43 ∷ num n ∷ rest) → ReadsExpr w line from (Of a n) rest
plus_reads w line from a n rest h = (
  parsed_expr (shape.Of (span h.0.start h.0.end) n) h.2.2.0.end,
  at_name w line from a (sign 43 ∷ num n ∷ rest) h ∙ name_plus w line (span h.0.start h.0.end) n rest h.2,
  ap (λ x. Of x n) (name_bytes line a h.0 h.1.kind h.1.name),
  h.2.2.2,
)

minus_plus_reads : (w : Bool) (line : List ℕ) (from : ℕ) (a b : List ℕ) (n : ℤ) (rest : List Tok) → Reads line from (word a ∷ sign 45 ∷ word b ∷ sign 43 ∷ num n ∷ rest) → ReadsExpr w line from (Diff a b n) rest
minus_plus_reads w line from a b n rest h = (
  parsed_expr (shape.Diff (span h.0.start h.0.end) (span h.2.2.0.start h.2.2.0.end) n) h.2.2.2.2.0.end,
  at_name w line from a (sign 45 ∷ word b ∷ sign 43 ∷ num n ∷ rest) h
      ∙ name_minus w line (span h.0.start h.0.end) (word b ∷ sign 43 ∷ num n ∷ rest) h.2
      ∙ difference_plus line (span h.0.start h.0.end) h.2.0.end b n rest h.2.2,
  ap (λ x. Diff x (bytes_of line (span h.2.2.0.start h.2.2.0.end)) n) (name_bytes line a h.0 h.1.kind h.1.name) ∙ ap (λ x. Diff a x n) (name_bytes line b h.2.2.0 h.2.2.1.kind h.2.2.1.name),
  h.2.2.2.2.2,
)

relation_reads : (line : List ℕ) (from : ℕ) (a w : List ℕ) (f : Span → shape.the_data) (e : Expr) (rest : List Tok) → ((s : Span) → relation_of s w ≡ Some (f s)) → ((s : Span) → bytes_of line s ≡ a → expr_of line (f s) ≡ e) → Reads line from (relation_toks a w rest) → ReadsExpr true line from e rest
relation_reads line from a w f e rest r m h =
    let s = span h.0.start h.0.end in (
      parsed_expr (f s) h.2.2.2.0.end,
      at_name true line from a (sign 40 ∷ word w ∷ sign 41 ∷ rest) h
          ∙ name_open line s (word w ∷ sign 41 ∷ rest) h.2
          ∙ related_reads line s h.2.0.end w (f s) rest h.2.2 (r s),
      m s (name_bytes line a h.0 h.1.kind h.1.name),
      h.2.2.2.2,
    )

-- an expression
pub expr_reads : (w : Bool) (line : List ℕ) (from : ℕ) (e : Expr) (rest : List Tok) → Stands w e → Over rest → Reads line from (expr_toks e rest) → ReadsExpr w line from e rest
expr_reads w line from (Num z) rest s o h = (parsed_expr (shape.Num z) h.0.end, at_number w line from z rest h, refl, h.2)
expr_reads w line from (Of a (pos zero)) rest s o h = (
  parsed_expr (shape.Of (span h.0.start h.0.end) (pos 0)) h.0.end,
  at_name w line from a rest h ∙ name_alone w line (span h.0.start h.0.end) rest o h.2,
  ap (λ x. Of x (pos 0)) (name_bytes line a h.0 h.1.kind h.1.name),
  h.2,
)
expr_reads w line from (Of a (pos (suc n))) rest s o h = plus_reads w line from a (pos (suc n)) rest h
expr_reads w line from (Of a (negsuc n)) rest s o h = plus_reads w line from a (negsuc n) rest h
expr_reads w line from (Diff a b (pos zero)) rest s o h = (
  parsed_expr (shape.Diff (span h.0.start h.0.end) (span h.2.2.0.start h.2.2.0.end) (pos 0)) h.2.2.0.end,
  at_name w line from a (sign 45 ∷ word b ∷ rest) h
      ∙ name_minus w line (span h.0.start h.0.end) (word b ∷ rest) h.2
      ∙ difference_alone line (span h.0.start h.0.end) h.2.0.end b rest h.2.2 o,
  ap (λ x. Diff x (bytes_of line (span h.2.2.0.start h.2.2.0.end)) (pos 0)) (name_bytes line a h.0 h.1.kind h.1.name) ∙ ap (λ x. Diff a x (pos 0)) (name_bytes line b h.2.2.0 h.2.2.1.kind h.2.2.1.name),
  h.2.2.2,
)
expr_reads w line from (Diff a b (pos (suc n))) rest s o h = minus_plus_reads w line from a b (pos (suc n)) rest h
expr_reads w line from (Diff a b (negsuc n)) rest s o h = minus_plus_reads w line from a b (negsuc n) rest h
expr_reads true line from (Prel31 a) rest s o h = relation_reads line from a (codes "prel31") (λ x. shape.Prel31 x) (Prel31 a) rest (λ x. refl) (λ x b. ap (λ y. Prel31 y) b) h
expr_reads true line from (Prel31Ref a) rest s o h = relation_reads line from a (codes "prel31ref") (λ x. shape.Prel31Ref x) (Prel31Ref a) rest (λ x. refl) (λ x b. ap (λ y. Prel31Ref y) b) h
expr_reads true line from (Target2 a) rest s o h = relation_reads line from a (codes "target2") (λ x. shape.Target2 x) (Target2 a) rest (λ x. refl) (λ x b. ap (λ y. Target2 y) b) h
expr_reads true line from (Rel a) rest s o h = relation_reads line from a (codes "rel") (λ x. shape.Rel x) (Rel a) rest (λ x. refl) (λ x b. ap (λ y. Rel y) b) h
expr_reads false line from (Prel31 a) rest s o h = cc
expr_reads false line from (Prel31Ref a) rest s o h = cc
expr_reads false line from (Target2 a) rest s o h = cc
expr_reads false line from (Rel a) rest s o h = cc

-- ---- lists of expressions

abbrev pub exprs_toks : Expr → List Expr → List Tok → List Tok
exprs_toks e [] rest = expr_toks e rest
exprs_toks e (f ∷ fs) rest = expr_toks e (sign 44 ∷ exprs_toks f fs rest)

abbrev pub AllStand : Bool → Expr → List Expr → Type 0
AllStand w e [] = Stands w e
AllStand w e (f ∷ fs) = Stands w e × AllStand w f fs

abbrev pub first_mark : Expr → List Tok → TokenKind
first_mark e rest = head_kind (expr_toks e rest)

no_hash : (e : Expr) (rest : List Tok) → is_mark_of 35 (head_kind (expr_toks e rest)) ≡ false
no_hash (Num z) rest = refl
no_hash (Of a n) rest = refl
no_hash (Diff a b n) rest = refl
no_hash (Prel31 a) rest = refl
no_hash (Prel31Ref a) rest = refl
no_hash (Target2 a) rest = refl
no_hash (Rel a) rest = refl

listed_is : (w : Bool) (line : List ℕ) (from : ℕ) (e : Expr) (rest : List Tok) → Reads line from (expr_toks e rest) → list_expr_at w line from ≡ expression_at w line from
unfolding list_expr_at
listed_is w line from e rest h =
    let found = head_of line from (expr_toks e rest) h in
    let plain = no_hash e rest in
    rw (found.1.is, found.1.kind, plain) refl

item_last : (w : Bool) (line : List ℕ) (from : ℕ) (e : Expr) (rest : List Tok) → Stands w e → Over rest → is_mark_of 44 (head_kind rest) ≡ false → Reads line from (expr_toks e rest) → (i : ListItem) × (list_item_at w line from ≡ Ok i) × (i.next ≡ None) × (expr_of line i.shape ≡ e) × Reads line i.end rest
unfolding list_item_at
item_last w line from e rest s o c h =
    let x = expr_reads w line from e rest s o h in
    let next = head_of line x.0.end rest x.3 in
    let i = item x.0 (token_at line x.0.end) in
    (i, ap (λ r. r >>= (λ e. Ok (item e (token_at line e.end)))) (listed_is w line from e rest h ∙ x.1), rw (next.1.is, next.1.kind, c) refl, x.2, x.3)

comma_over : (ts : List Tok) → Over (sign 44 ∷ ts)
comma_over ts = record { plus = refl; minus = refl; open_mark = refl }

item_more : (w : Bool) (line : List ℕ) (from : ℕ) (e : Expr) (ts : List Tok) → Stands w e → Reads line from (expr_toks e (sign 44 ∷ ts)) → (i : ListItem) × (at : ℕ) × (list_item_at w line from ≡ Ok i) × (i.next ≡ Some at) × (expr_of line i.shape ≡ e) × Reads line at ts
unfolding list_item_at
item_more w line from e ts s h =
    let x = expr_reads w line from e (sign 44 ∷ ts) s (comma_over ts) h in
    let i = item x.0 (token_at line x.0.end) in
    (i, x.3.0.end, ap (λ r. r >>= (λ e. Ok (item e (token_at line e.end)))) (listed_is w line from e (sign 44 ∷ ts) h ∙ x.1), rw (x.3.1.is, x.3.1.kind) refl, x.2, x.3.2)

longer : (e : Expr) (rest : List Tok) → length rest < length (expr_toks e rest)
longer (Num z) rest = omega arith
longer (Of a (pos zero)) rest = omega arith
longer (Of a (pos (suc n))) rest = omega arith
longer (Of a (negsuc n)) rest = omega arith
longer (Diff a b (pos zero)) rest = omega arith
longer (Diff a b (pos (suc n))) rest = omega arith
longer (Diff a b (negsuc n)) rest = omega arith
longer (Prel31 a) rest = omega arith
longer (Prel31Ref a) rest = omega arith
longer (Target2 a) rest = omega arith
longer (Rel a) rest = omega arith

-- what stands at a place are these expressions, and after them these tokens
abbrev pub ReadsExprs : ℕ → Bool → List ℕ → ℕ → List Expr → List Tok → Type 0
ReadsExprs n w line from es rest = (s : Series) × (expressions_at n w line from ≡ Ok s) × (map (expr_of line) s.shapes ≡ es) × Reads line s.end rest

pub exprs_reads : (n : ℕ) (w : Bool) (line : List ℕ) (from : ℕ) (e : Expr) (es : List Expr) (rest : List Tok) → AllStand w e es → Over rest → is_mark_of 44 (head_kind rest) ≡ false → length (exprs_toks e es rest) ≤ n → Reads line from (exprs_toks e es rest) → ReadsExprs n w line from (e ∷ es) rest
unfolding expressions_at
exprs_reads zero w line from e [] rest s o c few h = absurd (let more = longer e rest in omega arith)
exprs_reads zero w line from e (f ∷ fs) rest s o c few h = absurd (let more = longer e (sign 44 ∷ exprs_toks f fs rest) in omega arith)
exprs_reads (suc n) w line from e [] rest s o c few h =
    let i = item_last w line from e rest s o c h in (
      expr_series (i.0.shape ∷ []) i.0.end,
      ap (λ r. r >>= (λ i. and_more i i.next (λ at. expressions_at n w line at))) i.1
          ∙ ap (λ k. and_more i.0 k (λ at. expressions_at n w line at)) i.2,
      ap (λ x. x ∷ []) i.3,
      i.4,
    )
exprs_reads (suc n) w line from e (f ∷ fs) rest s o c few h =
    let i = item_more w line from e (exprs_toks f fs rest) s.0 h in
    let more = longer e (sign 44 ∷ exprs_toks f fs rest) in
    let x = exprs_reads n w line i.1 f fs rest s.1 o c (omega arith) i.5 in (
      expr_series (i.0.shape ∷ x.0.shapes) x.0.end,
      ap (λ r. r >>= (λ i. and_more i i.next (λ at. expressions_at n w line at))) i.2
          ∙ ap (λ k. and_more i.0 k (λ at. expressions_at n w line at)) i.3
          ∙ ap (λ r. r >>= (λ rest. Ok (expr_series (i.0.shape ∷ rest.shapes) rest.end))) x.1,
      ap (λ x. x ∷ map (expr_of line) (exprs_reads n w line i.1 f fs rest s.1 o c (omega arith) i.5).0.shapes) i.4 ∙ ap (λ y. e ∷ y) x.2,
      x.3,
    )
