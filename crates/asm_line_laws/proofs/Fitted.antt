-- Forms over tokens: how far they fit, and that the reader says the same of a line that has these tokens.
use Rattle.std.proofs.Common.{◌≡◌, ℕ, Bool, true, false, if◌then◌else◌, List, [], ◌∷◌, ◌++◌, length, ◌≤◌, not, Option, Some, None, Result, Ok, Err, ℤ, pos, refl, ap, sym, subst, ◌∙◌, codes, ◌&&◌}
use Rattle.std.specs.Prelude.{int_le}
use Rattle.asm_read.specs.declared.token.TokenKind.TheVariants.{Word}
use Rattle.asm_read.specs.declared.token.Token.{Token}
use Rattle.asm_read.specs.declared.line.LineEnd.{LineEnd}
use Rattle.asm_read.specs.declared.line.Register.{Register}
use Rattle.asm_read.specs.declared.line.Numeral.{Numeral}
use Rattle.asm_read.specs.declared.form.Piece.{Piece}
use Rattle.asm_read.specs.declared.form.Piece.TheVariants.{First, Second, Third, Sp, Mark, MaybeHash, Number, Zero, UpToThree, Name, SameName, Dot, Rodata, Function, Object, Registers, RegistersWithFirst, Text, Expression, Expressions, WordExpressions}
use Rattle.asm_read.specs.declared.form.Operands.{Operands}
use Rattle.asm_read.specs.Operands.{◌>>=◌, span, bytes_of, same, name_of, name_in, register_in as registered, register_at, past_if, is_mark_of, mark_at, mark_or_nothing, word_at, name_at, text_at, number_at, limited_number_at, has_register, list_at, stop, end_at_token}
use Rattle.asm_read.specs.Fits.{piece_at, end_if, read_pieces}
use Rattle.asm_line_laws.specs.Written.{register}
use Rattle.asm_read.specs.declared.fault.SourceWhat.TheVariants.{BadOperand}
use Rattle.asm_read.specs.declared.line.ListRegisters.{ListRegisters}
use Rattle.asm_read.specs.declared.expression.ParsedExpr.{ParsedExpr}
use Rattle.asm_read.specs.Expressions.{expression_at, expressions_at, expr_of, expr_from, expr_or_zero, exprs_of}
use Rattle.asm_statements.specs.declared.statement.Expr.{Expr}
use Rattle.asm_line_laws.proofs.Toks.{Tok, reg, word, num, sign, quote, kind_of, word_in, register_in, Reads}
use Rattle.asm_line_laws.proofs.Heads.{register_heads, mark_heads, word_heads, hash_heads, name_heads, number_heads, limited_heads, text_heads, end_heads, head_of}
use Rattle.asm_line_laws.proofs.Lists.{masked, listed_reads, expr_reads, exprs_reads, AllStand, Over, exprs_toks}
use Rattle.asm_line_laws.proofs.Items.{Item, tok, regs, value, values, flat}

-- the expressions that operands hold
pub data Value : Type 0 where
  nothing : Value
  one : Expr → Value
  many : Bool → Expr → List Expr → Value

-- what operands hold so far
pub record Vals : Type 0 where
  pub first : ℕ
  pub second : ℕ
  pub third : ℕ
  pub list : ℕ
  pub number : ℤ
  pub name : List ℕ
  pub value : Value

abbrev pub none_yet : Vals
none_yet = record { first = 0; second = 0; third = 0; list = 0; number = pos 0; name = []; value = nothing }

pub data Step : Type 0 where
  went : List Item → Vals → Step
  refused : Step
  unknown : Step

abbrev pub if_some : Option ℕ → (ℕ → Vals) → List Item → Step
if_some None f ts = refused
if_some (Some r) f ts = went ts (f r)

abbrev pub if_so : Bool → List Item → Vals → Step
if_so true ts v = went ts v
if_so false ts v = refused

abbrev pub by_reg : (ℕ → Vals) → List Item → Step
by_reg f [] = refused
by_reg f (tok t ∷ ts) = if_some (register_in t) f ts
by_reg f (t ∷ ts) = unknown

abbrev pub by_word : List ℕ → List Item → Vals → Step
by_word w [] v = if same [] w then unknown else refused
by_word w (tok t ∷ ts) v = if_so (same (word_in t) w) ts v
by_word w (t ∷ ts) v = unknown

abbrev pub by_mark : ℕ → List Item → Vals → Step
by_mark b [] v = refused
by_mark b (tok t ∷ ts) v = if_so (is_mark_of b (kind_of t)) ts v
by_mark b (t ∷ ts) v = unknown

abbrev pub by_hash : List Item → Vals → Step
by_hash [] v = went [] v
by_hash (tok t ∷ ts) v = if is_mark_of 35 (kind_of t) then went ts v else went (tok t ∷ ts) v
by_hash (t ∷ ts) v = unknown

abbrev pub by_name : List Item → Vals → Step
by_name [] v = refused
by_name (tok (reg r) ∷ ts) v = went ts (record v { name = register r })
by_name (tok (word w) ∷ ts) v = went ts (record v { name = w })
by_name (tok (num z) ∷ ts) v = refused
by_name (tok (sign b) ∷ ts) v = refused
by_name (tok (quote raw) ∷ ts) v = refused
by_name (t ∷ ts) v = unknown

abbrev pub by_number : (ℤ → Vals) → List Item → Step
by_number f [] = refused
by_number f (tok (num z) ∷ ts) = went ts (f z)
by_number f (tok t ∷ ts) = refused
by_number f (t ∷ ts) = unknown

abbrev pub by_limited : ℤ → (ℤ → Vals) → List Item → Step
by_limited high f [] = refused
by_limited high f (tok (num z) ∷ ts) = if_so (int_le (pos 0) z && int_le z high) ts (f z)
by_limited high f (tok t ∷ ts) = refused
by_limited high f (t ∷ ts) = unknown

-- a text, with its quotes
abbrev pub by_text : List Item → Vals → Step
by_text (tok (quote raw) ∷ ts) v = went ts (record v { name = 34 ∷ (raw ++ (34 ∷ [])) })
by_text ts v = unknown

abbrev pub by_list : List Item → Vals → Step
by_list (regs rs ∷ ts) v = went ts (record v { list = masked 0 rs })
by_list ts v = unknown

abbrev pub by_list_with : List Item → Vals → Step
by_list_with (regs rs ∷ ts) v = if_so (has_register (masked 0 rs) v.first) ts (record v { list = masked 0 rs })
by_list_with ts v = unknown

-- expressions end a line
abbrev pub by_value : List Item → Vals → Step
by_value (value e s ∷ []) v = went [] (record v { value = one e })
by_value ts v = unknown

abbrev pub by_values : Bool → List Item → Vals → Step
by_values true (values true e es s ∷ []) v = went [] (record v { value = many true e es })
by_values false (values false e es s ∷ []) v = went [] (record v { value = many false e es })
by_values w ts v = unknown

-- one piece of a form
abbrev pub stepped : Piece → List Item → Vals → Step
stepped First ts v = by_reg (λ r. record v { first = r }) ts
stepped Second ts v = by_reg (λ r. record v { second = r }) ts
stepped Third ts v = by_reg (λ r. record v { third = r }) ts
stepped Sp ts v = by_word (codes "sp") ts v
stepped (Mark b) ts v = by_mark b ts v
stepped MaybeHash ts v = by_hash ts v
stepped Number ts v = by_number (λ z. record v { number = z }) ts
stepped Zero ts v = by_limited (pos 0) (λ z. record v { number = z }) ts
stepped UpToThree ts v = by_limited (pos 3) (λ z. record v { number = z }) ts
stepped Name ts v = by_name ts v
stepped SameName ts v = by_word v.name ts v
stepped Dot ts v = by_word (codes ".") ts v
stepped Rodata ts v = by_word (codes ".rodata") ts v
stepped Function ts v = by_word (codes "function") ts v
stepped Object ts v = by_word (codes "object") ts v
stepped Registers ts v = by_list ts v
stepped RegistersWithFirst ts v = by_list_with ts v
stepped Text ts v = by_text ts v
stepped Expression ts v = by_value ts v
stepped Expressions ts v = by_values false ts v
stepped WordExpressions ts v = by_values true ts v

abbrev pub and_then : Step → (List Item → Vals → Step) → Step
and_then (went ts v) f = f ts v
and_then refused f = refused
and_then unknown f = unknown

-- the pieces of a form up to the line's end
unfoldable pub fitted : List Piece → List Item → Vals → Step
fitted [] [] v = went [] v
fitted [] (tok t ∷ ts) v = refused
fitted [] (t ∷ ts) v = unknown
fitted (p ∷ ps) ts v = and_then (stepped p ts v) (λ us w. fitted ps us w)

-- the expressions from a place on
abbrev pub Holds : List ℕ → ℕ → Value → Type 0
Holds line from nothing = Unit {0}
Holds line from (one e) = expr_from line from ≡ e
Holds line from (many w e es) = exprs_of line (expressions_at (length line) w line from) ≡ e ∷ es

-- operands of a line hold these values
pub record Agrees (line : List ℕ) (o : Operands) (v : Vals) : Type 0 where
  pub first : o.first ≡ v.first
  pub second : o.second ≡ v.second
  pub third : o.third ≡ v.third
  pub list : o.list ≡ v.list
  pub number : o.number ≡ v.number
  pub name : bytes_of line o.name ≡ v.name
  pub value : Holds line o.from v.value

abbrev pub Went : List ℕ → Result Operands LineEnd → List Item → Vals → Type 0
Went line (Ok o) ts v = Agrees line o v × Reads line o.at (flat ts)
Went line (Err s) ts v = ⊥

abbrev pub IsRefused : Result Operands LineEnd → Type 0
IsRefused (Ok o) = ⊥
IsRefused (Err s) = Unit {0}

-- the reader goes as the tokens go
abbrev pub Follows : List ℕ → Result Operands LineEnd → Step → Type 0
Follows line r (went ts v) = Went line r ts v
Follows line r refused = IsRefused r
Follows line r unknown = Unit {0}

moved : (line : List ℕ) (o : Operands) (v : Vals) (at : ℕ) → Agrees line o v → Agrees line (record o { at = at }) v
moved line o v at a = record { first = a.first; second = a.second; third = a.third; list = a.list; number = a.number; name = a.name; value = a.value }

reg_follows : (line : List ℕ) (from : ℕ) (ts : List Item) (place : Register → Operands) (f : ℕ → Vals) → ((r : Register) → Agrees line (place r) (f r.number)) → ((r : Register) → (place r).at ≡ r.end) → Reads line from (flat ts) → Follows line (register_at line from >>= (λ r. Ok (place r))) (by_reg f ts)
reg_follows line from [] place f a e h =
    subst (λ x. IsRefused (x >>= (λ r. Ok (place r)))) (sym (register_heads line from [] h.0 h.1)) tt
reg_follows line from (tok t ∷ ts) place f a e h =
    subst (λ x. Follows line (x >>= (λ r. Ok (place r))) (if_some (register_in t) f ts)) (sym (register_heads line from (t ∷ flat ts) h.0 h.1))
    (elim (register_in t) as (λ q. Follows line (registered h.0 q >>= (λ r. Ok (place r))) (if_some q f ts)) [
      | None ↦ tt
      | Some r ↦ (a (record { number = r; start = h.0.start; end = h.0.end }), subst (λ at. Reads line at (flat ts)) (sym (e (record { number = r; start = h.0.start; end = h.0.end }))) h.2)
    ])
reg_follows line from (t ∷ ts) place f a e h = tt

past_follows : (line : List ℕ) (o : Operands) (v : Vals) (ts : List Item) (b : Bool) (found : Token) → Agrees line o v → Reads line found.end (flat ts) → Follows line (past_if b found >>= (λ at. Ok (record o { at = at }))) (if_so b ts v)
past_follows line o v ts true found a h = (moved line o v found.end a, h)
past_follows line o v ts false found a h = tt

mark_follows : (b : ℕ) (line : List ℕ) (o : Operands) (v : Vals) (ts : List Item) → Agrees line o v → Reads line o.at (flat ts) → Follows line (mark_at b line o.at >>= (λ at. Ok (record o { at = at }))) (by_mark b ts v)
mark_follows b line o v [] a h =
    subst (λ x. IsRefused (x >>= (λ at. Ok (record o { at = at })))) (sym (mark_heads b line o.at [] h.0 h.1)) tt
mark_follows b line o v (tok t ∷ ts) a h =
    subst (λ x. Follows line (x >>= (λ at. Ok (record o { at = at }))) (if_so (is_mark_of b (kind_of t)) ts v)) (sym (mark_heads b line o.at (t ∷ flat ts) h.0 h.1))
    (past_follows line o v ts (is_mark_of b (kind_of t)) h.0 a h.2)
mark_follows b line o v (t ∷ ts) a h = tt

word_follows : (w line : List ℕ) (o : Operands) (v : Vals) (ts : List Item) → Agrees line o v → Reads line o.at (flat ts) → Follows line (word_at w line o.at >>= (λ at. Ok (record o { at = at }))) (by_word w ts v)
word_follows w line o v [] a h =
    subst (λ x. Follows line (x >>= (λ at. Ok (record o { at = at }))) (if same [] w then unknown else refused)) (sym (word_heads w line o.at [] h.0 h.1))
    (elim (same [] w) as (λ q. Follows line (past_if q h.0 >>= (λ at. Ok (record o { at = at }))) (if q then unknown else refused)) [ true ↦ tt | false ↦ tt ])
word_follows w line o v (tok t ∷ ts) a h =
    subst (λ x. Follows line (x >>= (λ at. Ok (record o { at = at }))) (if_so (same (word_in t) w) ts v)) (sym (word_heads w line o.at (t ∷ flat ts) h.0 h.1))
    (past_follows line o v ts (same (word_in t) w) h.0 a h.2)
word_follows w line o v (t ∷ ts) a h = tt

hash_follows : (line : List ℕ) (o : Operands) (v : Vals) (ts : List Item) → Agrees line o v → Reads line o.at (flat ts) → Follows line (Ok (record o { at = mark_or_nothing 35 line o.at })) (by_hash ts v)
hash_follows line o v [] a h =
    subst (λ x. Follows line (Ok (record o { at = x })) (went [] v)) (sym (hash_heads line o.at [] h.0 h.1)) (moved line o v o.at a, h)
hash_follows line o v (tok t ∷ ts) a h =
    subst (λ x. Follows line (Ok (record o { at = x })) (by_hash (tok t ∷ ts) v)) (sym (hash_heads line o.at (t ∷ flat ts) h.0 h.1))
    (elim (is_mark_of 35 (kind_of t)) as (λ q. Follows line (Ok (record o { at = if q then h.0.end else o.at })) (if q then went ts v else went (tok t ∷ ts) v)) [
      | true ↦ (moved line o v h.0.end a, h.2)
      | false ↦ (moved line o v o.at a, h)
    ])
hash_follows line o v (t ∷ ts) a h = tt

named : (line : List ℕ) (o : Operands) (v : Vals) (found : Token) (w : List ℕ) → Agrees line o v → found.kind ≡ Word → name_of line found ≡ w → Agrees line (record o { at = found.end; name = span found.start found.end }) (record v { name = w })
named line o v found w a k n =
    record { first = a.first; second = a.second; third = a.third; list = a.list; number = a.number; name = sym (ap (name_in line (span found.start found.end)) k) ∙ n; value = a.value }

name_follows : (line : List ℕ) (o : Operands) (v : Vals) (ts : List Item) → Agrees line o v → Reads line o.at (flat ts) → Follows line (name_at line o.at >>= (λ s. Ok (record o { at = s.end; name = s }))) (by_name ts v)
name_follows line o v [] a h =
    subst (λ x. IsRefused (x >>= (λ s. Ok (record o { at = s.end; name = s })))) (sym (name_heads line o.at [] h.0 h.1)) tt
name_follows line o v (tok (reg r) ∷ ts) a h =
    subst (λ x. Follows line (x >>= (λ s. Ok (record o { at = s.end; name = s }))) (by_name (tok (reg r) ∷ ts) v)) (sym (name_heads line o.at (reg r ∷ flat ts) h.0 h.1)) (named line o v h.0 (register r) a h.1.kind h.1.name, h.2)
name_follows line o v (tok (word w) ∷ ts) a h =
    subst (λ x. Follows line (x >>= (λ s. Ok (record o { at = s.end; name = s }))) (by_name (tok (word w) ∷ ts) v)) (sym (name_heads line o.at (word w ∷ flat ts) h.0 h.1)) (named line o v h.0 w a h.1.kind h.1.name, h.2)
name_follows line o v (tok (num z) ∷ ts) a h =
    subst (λ x. IsRefused (x >>= (λ s. Ok (record o { at = s.end; name = s })))) (sym (name_heads line o.at (num z ∷ flat ts) h.0 h.1)) tt
name_follows line o v (tok (sign b) ∷ ts) a h =
    subst (λ x. IsRefused (x >>= (λ s. Ok (record o { at = s.end; name = s })))) (sym (name_heads line o.at (sign b ∷ flat ts) h.0 h.1)) tt
name_follows line o v (tok (quote raw) ∷ ts) a h =
    subst (λ x. IsRefused (x >>= (λ s. Ok (record o { at = s.end; name = s })))) (sym (name_heads line o.at (quote raw ∷ flat ts) h.0 h.1)) tt
name_follows line o v (t ∷ ts) a h = tt

numbered : (line : List ℕ) (o : Operands) (v : Vals) (at : ℕ) (z : ℤ) → Agrees line o v → Agrees line (record o { at = at; number = z }) (record v { number = z })
numbered line o v at z a = record { first = a.first; second = a.second; third = a.third; list = a.list; number = refl; name = a.name; value = a.value }

number_follows : (line : List ℕ) (o : Operands) (v : Vals) (ts : List Item) → Agrees line o v → Reads line o.at (flat ts) → Follows line (number_at line o.at >>= (λ n. Ok (record o { at = n.end; number = n.value }))) (by_number (λ z. record v { number = z }) ts)
number_follows line o v [] a h = subst (λ x. IsRefused (x >>= (λ n. Ok (record o { at = n.end; number = n.value })))) (sym (number_heads line o.at [] h.0 h.1)) tt
number_follows line o v (tok (reg r) ∷ ts) a h = subst (λ x. IsRefused (x >>= (λ n. Ok (record o { at = n.end; number = n.value })))) (sym (number_heads line o.at (reg r ∷ flat ts) h.0 h.1)) tt
number_follows line o v (tok (word w) ∷ ts) a h = subst (λ x. IsRefused (x >>= (λ n. Ok (record o { at = n.end; number = n.value })))) (sym (number_heads line o.at (word w ∷ flat ts) h.0 h.1)) tt
number_follows line o v (tok (sign b) ∷ ts) a h = subst (λ x. IsRefused (x >>= (λ n. Ok (record o { at = n.end; number = n.value })))) (sym (number_heads line o.at (sign b ∷ flat ts) h.0 h.1)) tt
number_follows line o v (tok (num z) ∷ ts) a h =
    subst (λ x. Went line (x >>= (λ n. Ok (record o { at = n.end; number = n.value }))) ts (record v { number = z })) (sym (number_heads line o.at (num z ∷ flat ts) h.0 h.1)) (numbered line o v h.0.end z a, h.2)
number_follows line o v (tok (quote raw) ∷ ts) a h = subst (λ x. IsRefused (x >>= (λ n. Ok (record o { at = n.end; number = n.value })))) (sym (number_heads line o.at (quote raw ∷ flat ts) h.0 h.1)) tt
number_follows line o v (t ∷ ts) a h = tt

abbrev within_limit : Bool → Token → ℤ → Result Numeral LineEnd
within_limit b found z = if b then Ok (record { value = z; end = found.end }) else Err (end_at_token found)

limited_follows : (high : ℤ) (line : List ℕ) (o : Operands) (v : Vals) (ts : List Item) → Agrees line o v → Reads line o.at (flat ts) → Follows line (limited_number_at high line o.at >>= (λ n. Ok (record o { at = n.end; number = n.value }))) (by_limited high (λ z. record v { number = z }) ts)
limited_follows high line o v [] a h = subst (λ x. IsRefused (x >>= (λ n. Ok (record o { at = n.end; number = n.value })))) (sym (limited_heads high line o.at [] h.0 h.1)) tt
limited_follows high line o v (tok (reg r) ∷ ts) a h = subst (λ x. IsRefused (x >>= (λ n. Ok (record o { at = n.end; number = n.value })))) (sym (limited_heads high line o.at (reg r ∷ flat ts) h.0 h.1)) tt
limited_follows high line o v (tok (word w) ∷ ts) a h = subst (λ x. IsRefused (x >>= (λ n. Ok (record o { at = n.end; number = n.value })))) (sym (limited_heads high line o.at (word w ∷ flat ts) h.0 h.1)) tt
limited_follows high line o v (tok (sign b) ∷ ts) a h = subst (λ x. IsRefused (x >>= (λ n. Ok (record o { at = n.end; number = n.value })))) (sym (limited_heads high line o.at (sign b ∷ flat ts) h.0 h.1)) tt
limited_follows high line o v (tok (num z) ∷ ts) a h =
    subst (λ x. Follows line (x >>= (λ n. Ok (record o { at = n.end; number = n.value }))) (by_limited high (λ y. record v { number = y }) (tok (num z) ∷ ts))) (sym (limited_heads high line o.at (num z ∷ flat ts) h.0 h.1))
    (elim (int_le (pos 0) z && int_le z high) as (λ q. Follows line (within_limit q h.0 z >>= (λ n. Ok (record o { at = n.end; number = n.value }))) (if_so q ts (record v { number = z }))) [
      | true ↦ (numbered line o v h.0.end z a, h.2)
      | false ↦ tt
    ])
limited_follows high line o v (tok (quote raw) ∷ ts) a h = subst (λ x. IsRefused (x >>= (λ n. Ok (record o { at = n.end; number = n.value })))) (sym (limited_heads high line o.at (quote raw ∷ flat ts) h.0 h.1)) tt
limited_follows high line o v (t ∷ ts) a h = tt

text_follows : (line : List ℕ) (o : Operands) (v : Vals) (ts : List Item) → Agrees line o v → Reads line o.at (flat ts) → Follows line (text_at line o.at >>= (λ s. Ok (record o { at = s.end; name = s }))) (by_text ts v)
text_follows line o v (tok (quote raw) ∷ ts) a h =
    subst (λ x. Went line (x >>= (λ s. Ok (record o { at = s.end; name = s }))) ts (record v { name = 34 ∷ (raw ++ (34 ∷ [])) })) (sym (text_heads line o.at (quote raw ∷ flat ts) h.0 h.1))
    (record { first = a.first; second = a.second; third = a.third; list = a.list; number = a.number; name = h.1.text; value = a.value }, h.2)
text_follows line o v ts a h = tt

-- the list of a row that has to have the first register, or of another
abbrev checked : Bool → List ℕ → Operands → ListRegisters → Result Operands LineEnd
checked first line o l = if first && not (has_register l.list o.first) then Err (stop l.close BadOperand) else Ok (record o { at = l.end; list = l.list })

list_follows : (line : List ℕ) (o : Operands) (v : Vals) (ts : List Item) → Agrees line o v → Reads line o.at (flat ts) → Follows line (list_at line o.at >>= (λ l. checked false line o l)) (by_list ts v)
list_follows line o v (regs rs ∷ ts) a h =
    let x = listed_reads line o.at rs (flat ts) h in
    subst (λ y. Went line (y >>= (λ l. checked false line o l)) ts (record v { list = masked 0 rs })) (sym x.1)
    (record { first = a.first; second = a.second; third = a.third; list = x.2; number = a.number; name = a.name; value = a.value }, x.3)
list_follows line o v ts a h = tt

listed_with : (line : List ℕ) (o : Operands) (v : Vals) (ts : List Item) (l : ListRegisters) (all : ℕ) → Agrees line o v → l.list ≡ all → Reads line l.end (flat ts) → (b : Bool) → has_register l.list o.first ≡ b → Follows line (if not b then Err (stop l.close BadOperand) else Ok (record o { at = l.end; list = l.list })) (if_so b ts (record v { list = all }))
listed_with line o v ts l all a e h true s = (record { first = a.first; second = a.second; third = a.third; list = e; number = a.number; name = a.name; value = a.value }, h)
listed_with line o v ts l all a e h false s = tt

list_with_follows : (line : List ℕ) (o : Operands) (v : Vals) (ts : List Item) → Agrees line o v → Reads line o.at (flat ts) → Follows line (list_at line o.at >>= (λ l. checked true line o l)) (by_list_with ts v)
list_with_follows line o v (regs rs ∷ ts) a h =
    let x = listed_reads line o.at rs (flat ts) h in
    let same_test : has_register x.0.list o.first ≡ has_register (masked 0 rs) v.first = ap (λ l. has_register l o.first) x.2 ∙ ap (λ r. has_register (masked 0 rs) r) a.first in
    subst (λ y. Follows line (y >>= (λ l. checked true line o l)) (if_so (has_register (masked 0 rs) v.first) ts (record v { list = masked 0 rs }))) (sym x.1)
    (subst (λ b. Follows line (checked true line o x.0) (if_so b ts (record v { list = masked 0 rs }))) same_test (listed_with line o v ts x.0 (masked 0 rs) a x.2 x.3 (has_register x.0.list o.first) refl))
list_with_follows line o v ts a h = tt

none_over : Over []
none_over = record { plus = refl; minus = refl; open_mark = refl }

expr_is : (line : List ℕ) (from : ℕ) (e : Expr) (s : ParsedExpr) → expression_at false line from ≡ Ok s → expr_of line s.shape ≡ e → expr_from line from ≡ e
unfolding expr_from
expr_is line from e s h i = ap (expr_or_zero line) h ∙ i

value_follows : (line : List ℕ) (o : Operands) (v : Vals) (ts : List Item) → Agrees line o v → Reads line o.at (flat ts) → Follows line (expression_at false line o.at >>= (λ e. Ok (record o { at = e.end; from = o.at }))) (by_value ts v)
value_follows line o v (value e s ∷ []) a h =
    let x = expr_reads false line o.at e [] s none_over h in
    subst (λ y. Went line (y >>= (λ e. Ok (record o { at = e.end; from = o.at }))) [] (record v { value = one e })) (sym x.1)
    (record { first = a.first; second = a.second; third = a.third; list = a.list; number = a.number; name = a.name; value = expr_is line o.at e x.0 x.1 x.2 }, x.3)
value_follows line o v ts a h = tt

few_left : (line : List ℕ) (from : ℕ) (e : Expr) (es : List Expr) → Reads line from (exprs_toks e es []) → length (exprs_toks e es []) ≤ length line
few_left line from e es h = (head_of line from (exprs_toks e es []) h).1.few

many_reads : (w : Bool) (line : List ℕ) (o : Operands) (v : Vals) (e : Expr) (es : List Expr) → AllStand w e es → Agrees line o v → Reads line o.at (exprs_toks e es []) → Went line (expressions_at (length line) w line o.at >>= (λ s. Ok (record o { at = s.end; from = o.at }))) [] (record v { value = many w e es })
many_reads w line o v e es s a h =
    let x = exprs_reads (length line) w line o.at e es [] s none_over refl (few_left line o.at e es h) h in
    subst (λ y. Went line (y >>= (λ s. Ok (record o { at = s.end; from = o.at }))) [] (record v { value = many w e es })) (sym x.1)
    (record { first = a.first; second = a.second; third = a.third; list = a.list; number = a.number; name = a.name; value = ap (exprs_of line) x.1 ∙ x.2 }, x.3)

words_follow : (line : List ℕ) (o : Operands) (v : Vals) (ts : List Item) → Agrees line o v → Reads line o.at (flat ts) → Follows line (expressions_at (length line) true line o.at >>= (λ s. Ok (record o { at = s.end; from = o.at }))) (by_values true ts v)
words_follow line o v (values true e es s ∷ []) a h = many_reads true line o v e es s a h
words_follow line o v ts a h = tt

values_follow : (line : List ℕ) (o : Operands) (v : Vals) (ts : List Item) → Agrees line o v → Reads line o.at (flat ts) → Follows line (expressions_at (length line) false line o.at >>= (λ s. Ok (record o { at = s.end; from = o.at }))) (by_values false ts v)
values_follow line o v (values false e es s ∷ []) a h = many_reads false line o v e es s a h
values_follow line o v ts a h = tt

pub piece_follows : (p : Piece) (line : List ℕ) (o : Operands) (ts : List Item) (v : Vals) → Agrees line o v → Reads line o.at (flat ts) → Follows line (piece_at p line o) (stepped p ts v)
unfolding piece_at
piece_follows First line o ts v a h = reg_follows line o.at ts (λ r. record o { at = r.end; first = r.number }) (λ r. record v { first = r }) (λ r. record { first = refl; second = a.second; third = a.third; list = a.list; number = a.number; name = a.name; value = a.value }) (λ r. refl) h
piece_follows Second line o ts v a h = reg_follows line o.at ts (λ r. record o { at = r.end; second = r.number }) (λ r. record v { second = r }) (λ r. record { first = a.first; second = refl; third = a.third; list = a.list; number = a.number; name = a.name; value = a.value }) (λ r. refl) h
piece_follows Third line o ts v a h = reg_follows line o.at ts (λ r. record o { at = r.end; third = r.number }) (λ r. record v { third = r }) (λ r. record { first = a.first; second = a.second; third = refl; list = a.list; number = a.number; name = a.name; value = a.value }) (λ r. refl) h
piece_follows Sp line o ts v a h = word_follows (codes "sp") line o v ts a h
piece_follows (Mark b) line o ts v a h = mark_follows b line o v ts a h
piece_follows MaybeHash line o ts v a h = hash_follows line o v ts a h
piece_follows Number line o ts v a h = number_follows line o v ts a h
piece_follows Zero line o ts v a h = limited_follows (pos 0) line o v ts a h
piece_follows UpToThree line o ts v a h = limited_follows (pos 3) line o v ts a h
piece_follows Name line o ts v a h = name_follows line o v ts a h
piece_follows SameName line o ts v a h = subst (λ n. Follows line (word_at (bytes_of line o.name) line o.at >>= (λ at. Ok (record o { at = at }))) (by_word n ts v)) a.name (word_follows (bytes_of line o.name) line o v ts a h)
piece_follows Dot line o ts v a h = word_follows (codes ".") line o v ts a h
piece_follows Rodata line o ts v a h = word_follows (codes ".rodata") line o v ts a h
piece_follows Function line o ts v a h = word_follows (codes "function") line o v ts a h
piece_follows Object line o ts v a h = word_follows (codes "object") line o v ts a h
piece_follows Registers line o ts v a h = list_follows line o v ts a h
piece_follows RegistersWithFirst line o ts v a h = list_with_follows line o v ts a h
piece_follows Text line o ts v a h = text_follows line o v ts a h
piece_follows Expression line o ts v a h = value_follows line o v ts a h
piece_follows Expressions line o ts v a h = values_follow line o v ts a h
piece_follows WordExpressions line o ts v a h = words_follow line o v ts a h

more_refused : (o : Operands) (found : Token) (t : Tok) → IsRefused (end_if o found (kind_of t))
more_refused o found (reg r) = tt
more_refused o found (word w) = tt
more_refused o found (num z) = tt
more_refused o found (sign b) = tt
more_refused o found (quote raw) = tt

then_follows : (line : List ℕ) (r : Result Operands LineEnd) (s : Step) (f : Operands → Result Operands LineEnd) (g : List Item → Vals → Step) → Follows line r s → ((o : Operands) (ts : List Item) (v : Vals) → Agrees line o v → Reads line o.at (flat ts) → Follows line (f o) (g ts v)) → Follows line (r >>= f) (and_then s g)
then_follows line (Ok o) (went ts v) f g h k = k o ts v h.0 h.1
then_follows line (Ok o) refused f g h k = absurd h
then_follows line (Ok o) unknown f g h k = tt
then_follows line (Err s) (went ts v) f g h k = absurd h
then_follows line (Err s) refused f g h k = tt
then_follows line (Err s) unknown f g h k = tt

pub fits_follows : (ps : List Piece) (line : List ℕ) (o : Operands) (ts : List Item) (v : Vals) → Agrees line o v → Reads line o.at (flat ts) → Follows line (read_pieces ps line o) (fitted ps ts v)
unfolding read_pieces fitted
fits_follows [] line o [] v a h = subst (λ x. Went line x [] v) (sym (end_heads line o [] h.0 h.1)) (a, h)
fits_follows [] line o (tok t ∷ ts) v a h = subst (λ x. IsRefused x) (sym (end_heads line o (t ∷ flat ts) h.0 h.1)) (more_refused o h.0 t)
fits_follows [] line o (t ∷ ts) v a h = tt
fits_follows (p ∷ ps) line o ts v a h =
    then_follows line (piece_at p line o) (stepped p ts v) (λ n. read_pieces ps line n) (λ us w. fitted ps us w) (piece_follows p line o ts v a h) (λ n us w b i. fits_follows ps line n us w b i)
