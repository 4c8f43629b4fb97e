-- What fitting pieces found, place by place.
use Rattle.std.proofs.Common.{◌≡◌, ◌⊎◌, inl, inr, ℕ, Bool, true, false, not, if◌then◌else◌, List, [], ◌∷◌, length, Result, Ok, Err, pos, refl, sym, codes}
use Rattle.asm_read.specs.declared.token.TokenKind.{TokenKind}
use Rattle.asm_read.specs.declared.token.TokenKind.TheVariants as kind
use Rattle.asm_read.specs.declared.token.Token.{Token}
use Rattle.asm_read.specs.declared.line.Span.{Span}
use Rattle.asm_read.specs.declared.line.LineEnd.{LineEnd}
use Rattle.asm_read.specs.declared.line.Register.{Register}
use Rattle.asm_read.specs.declared.line.Numeral.{Numeral}
use Rattle.asm_read.specs.declared.line.ListRegisters.{ListRegisters}
use Rattle.asm_read.specs.declared.fault.SourceWhat.TheVariants.{BadOperand}
use Rattle.asm_read.specs.declared.expression.ParsedExpr.{ParsedExpr}
use Rattle.asm_read.specs.declared.form.Piece.{Piece}
use Rattle.asm_read.specs.declared.form.Piece.TheVariants.{First, Second, Third, Sp, Mark, MaybeHash, Number, Zero, UpToThree, Name, SameName, Dot, Rodata, Function, Object, Registers, RegistersWithFirst, Text, Expression, Expressions, WordExpressions}
use Rattle.asm_read.specs.declared.form.Operands.{Operands}
use Rattle.asm_read.specs.Tokens.{token_at}
use Rattle.asm_read.specs.Operands.{◌>>=◌, bytes_of, stop, past_if, is_mark_of, register_at, mark_at, mark_or_nothing, word_at, name_at, text_at, number_at, limited_number_at, has_register, list_at}
use Rattle.asm_read.specs.Expressions.{Series, expression_at, expressions_at}
use Rattle.asm_read.specs.Fits.{piece_at, end_if, end_at, read_pieces}

-- a # at a place, or nothing
abbrev pub Hashed : List ℕ → ℕ → ℕ → Type 0
Hashed source from at = (mark_at 35 source from ≡ Ok at) ⊎ (at ≡ from)

-- the pieces of a form stand one after another, the line's end after them, and hold these operands
abbrev pub Goes : List Piece → List ℕ → Operands → Operands → Type 0
Goes [] source o out = (out ≡ o) × ((token_at source o.at).kind ≡ kind.End)
Goes (First ∷ ps) source o out = (r : Register) × (register_at source o.at ≡ Ok r) × Goes ps source (record o { at = r.end; first = r.number }) out
Goes (Second ∷ ps) source o out = (r : Register) × (register_at source o.at ≡ Ok r) × Goes ps source (record o { at = r.end; second = r.number }) out
Goes (Third ∷ ps) source o out = (r : Register) × (register_at source o.at ≡ Ok r) × Goes ps source (record o { at = r.end; third = r.number }) out
Goes (Sp ∷ ps) source o out = (at : ℕ) × (word_at (codes "sp") source o.at ≡ Ok at) × Goes ps source (record o { at = at }) out
Goes (Mark b ∷ ps) source o out = (at : ℕ) × (mark_at b source o.at ≡ Ok at) × Goes ps source (record o { at = at }) out
Goes (MaybeHash ∷ ps) source o out = (at : ℕ) × Hashed source o.at at × Goes ps source (record o { at = at }) out
Goes (Number ∷ ps) source o out = (n : Numeral) × (number_at source o.at ≡ Ok n) × Goes ps source (record o { at = n.end; number = n.value }) out
Goes (Zero ∷ ps) source o out = (n : Numeral) × (limited_number_at (pos 0) source o.at ≡ Ok n) × Goes ps source (record o { at = n.end; number = n.value }) out
Goes (UpToThree ∷ ps) source o out = (n : Numeral) × (limited_number_at (pos 3) source o.at ≡ Ok n) × Goes ps source (record o { at = n.end; number = n.value }) out
Goes (Name ∷ ps) source o out = (s : Span) × (name_at source o.at ≡ Ok s) × Goes ps source (record o { at = s.end; name = s }) out
Goes (SameName ∷ ps) source o out = (at : ℕ) × (word_at (bytes_of source o.name) source o.at ≡ Ok at) × Goes ps source (record o { at = at }) out
Goes (Dot ∷ ps) source o out = (at : ℕ) × (word_at (codes ".") source o.at ≡ Ok at) × Goes ps source (record o { at = at }) out
Goes (Rodata ∷ ps) source o out = (at : ℕ) × (word_at (codes ".rodata") source o.at ≡ Ok at) × Goes ps source (record o { at = at }) out
Goes (Function ∷ ps) source o out = (at : ℕ) × (word_at (codes "function") source o.at ≡ Ok at) × Goes ps source (record o { at = at }) out
Goes (Object ∷ ps) source o out = (at : ℕ) × (word_at (codes "object") source o.at ≡ Ok at) × Goes ps source (record o { at = at }) out
Goes (Registers ∷ ps) source o out = (l : ListRegisters) × (list_at source o.at ≡ Ok l) × Goes ps source (record o { at = l.end; list = l.list }) out
Goes (RegistersWithFirst ∷ ps) source o out = (l : ListRegisters) × (list_at source o.at ≡ Ok l) × (has_register l.list o.first ≡ true) × Goes ps source (record o { at = l.end; list = l.list }) out
Goes (Text ∷ ps) source o out = (s : Span) × (text_at source o.at ≡ Ok s) × Goes ps source (record o { at = s.end; name = s }) out
Goes (Expression ∷ ps) source o out = (e : ParsedExpr) × (expression_at false source o.at ≡ Ok e) × Goes ps source (record o { at = e.end; from = o.at }) out
Goes (Expressions ∷ ps) source o out = (s : Series) × (expressions_at (length source) false source o.at ≡ Ok s) × Goes ps source (record o { at = s.end; from = o.at }) out
Goes (WordExpressions ∷ ps) source o out = (s : Series) × (expressions_at (length source) true source o.at ≡ Ok s) × Goes ps source (record o { at = s.end; from = o.at }) out

through : {A : Type 0} (r : Result A LineEnd) (f : A → Operands) (g : Operands → Result Operands LineEnd) (out : Operands) → ((r >>= (λ a. Ok (f a))) >>= g) ≡ Ok out → (a : A) × (r ≡ Ok a) × (g (f a) ≡ Ok out)
through (Ok a) f g out h = (a, refl, h)
through (Err s) f g out h = cc

with_by : (r : Result ListRegisters LineEnd) (l : ListRegisters) (has : ListRegisters → Bool) (f : ListRegisters → Operands) (s : ListRegisters → LineEnd) (g : Operands → Result Operands LineEnd) (out : Operands) (b : Bool) → r ≡ Ok l → has l ≡ b → ((if not b then Err (s l) else Ok (f l)) >>= g) ≡ Ok out → (k : ListRegisters) × (r ≡ Ok k) × (has k ≡ true) × (g (f k) ≡ Ok out)
with_by r l has f s g out true e t h = (l, e, t, h)
with_by r l has f s g out false e t h = cc

through_with : (r : Result ListRegisters LineEnd) (has : ListRegisters → Bool) (f : ListRegisters → Operands) (s : ListRegisters → LineEnd) (g : Operands → Result Operands LineEnd) (out : Operands) → ((r >>= (λ l. if not (has l) then Err (s l) else Ok (f l))) >>= g) ≡ Ok out → (l : ListRegisters) × (r ≡ Ok l) × (has l ≡ true) × (g (f l) ≡ Ok out)
through_with (Ok l) has f s g out h = with_by (Ok l) l has f s g out (has l) refl refl h
through_with (Err t) has f s g out h = cc

hash_by : (b : Bool) (t : Token) (from : ℕ) → (past_if b t ≡ Ok (if b then t.end else from)) ⊎ ((if b then t.end else from) ≡ from)
hash_by true t from = inl refl
hash_by false t from = inr refl

hash_or : (source : List ℕ) (from : ℕ) → Hashed source from (mark_or_nothing 35 source from)
unfolding mark_at mark_or_nothing
hash_or source from = hash_by (is_mark_of 35 (token_at source from).kind) (token_at source from) from

ended : (source : List ℕ) (o out : Operands) (k : TokenKind) → (token_at source o.at).kind ≡ k → end_if o (token_at source o.at) k ≡ Ok out → (out ≡ o) × ((token_at source o.at).kind ≡ kind.End)
ended source o out kind.End e h = (sym (let q : o ≡ out = cc in q), e)
ended source o out k e h = cc

pub goes : (ps : List Piece) (source : List ℕ) (o out : Operands) → read_pieces ps source o ≡ Ok out → Goes ps source o out
unfolding read_pieces piece_at end_at
goes [] source o out h = ended source o out (token_at source o.at).kind refl h
goes (First ∷ ps) source o out h =
    let t = through (register_at source o.at) (λ r. record o { at = r.end; first = r.number }) (λ n. read_pieces ps source n) out h in
    (t.0, t.1, goes ps source (record o { at = t.0.end; first = t.0.number }) out t.2)
goes (Second ∷ ps) source o out h =
    let t = through (register_at source o.at) (λ r. record o { at = r.end; second = r.number }) (λ n. read_pieces ps source n) out h in
    (t.0, t.1, goes ps source (record o { at = t.0.end; second = t.0.number }) out t.2)
goes (Third ∷ ps) source o out h =
    let t = through (register_at source o.at) (λ r. record o { at = r.end; third = r.number }) (λ n. read_pieces ps source n) out h in
    (t.0, t.1, goes ps source (record o { at = t.0.end; third = t.0.number }) out t.2)
goes (Sp ∷ ps) source o out h =
    let t = through (word_at (codes "sp") source o.at) (λ at. record o { at = at }) (λ n. read_pieces ps source n) out h in
    (t.0, t.1, goes ps source (record o { at = t.0 }) out t.2)
goes (Mark b ∷ ps) source o out h =
    let t = through (mark_at b source o.at) (λ at. record o { at = at }) (λ n. read_pieces ps source n) out h in
    (t.0, t.1, goes ps source (record o { at = t.0 }) out t.2)
goes (MaybeHash ∷ ps) source o out h = (mark_or_nothing 35 source o.at, hash_or source o.at, goes ps source (record o { at = mark_or_nothing 35 source o.at }) out h)
goes (Number ∷ ps) source o out h =
    let t = through (number_at source o.at) (λ n. record o { at = n.end; number = n.value }) (λ n. read_pieces ps source n) out h in
    (t.0, t.1, goes ps source (record o { at = t.0.end; number = t.0.value }) out t.2)
goes (Zero ∷ ps) source o out h =
    let t = through (limited_number_at (pos 0) source o.at) (λ n. record o { at = n.end; number = n.value }) (λ n. read_pieces ps source n) out h in
    (t.0, t.1, goes ps source (record o { at = t.0.end; number = t.0.value }) out t.2)
goes (UpToThree ∷ ps) source o out h =
    let t = through (limited_number_at (pos 3) source o.at) (λ n. record o { at = n.end; number = n.value }) (λ n. read_pieces ps source n) out h in
    (t.0, t.1, goes ps source (record o { at = t.0.end; number = t.0.value }) out t.2)
goes (Name ∷ ps) source o out h =
    let t = through (name_at source o.at) (λ s. record o { at = s.end; name = s }) (λ n. read_pieces ps source n) out h in
    (t.0, t.1, goes ps source (record o { at = t.0.end; name = t.0 }) out t.2)
goes (SameName ∷ ps) source o out h =
    let t = through (word_at (bytes_of source o.name) source o.at) (λ at. record o { at = at }) (λ n. read_pieces ps source n) out h in
    (t.0, t.1, goes ps source (record o { at = t.0 }) out t.2)
goes (Dot ∷ ps) source o out h =
    let t = through (word_at (codes ".") source o.at) (λ at. record o { at = at }) (λ n. read_pieces ps source n) out h in
    (t.0, t.1, goes ps source (record o { at = t.0 }) out t.2)
goes (Rodata ∷ ps) source o out h =
    let t = through (word_at (codes ".rodata") source o.at) (λ at. record o { at = at }) (λ n. read_pieces ps source n) out h in
    (t.0, t.1, goes ps source (record o { at = t.0 }) out t.2)
goes (Function ∷ ps) source o out h =
    let t = through (word_at (codes "function") source o.at) (λ at. record o { at = at }) (λ n. read_pieces ps source n) out h in
    (t.0, t.1, goes ps source (record o { at = t.0 }) out t.2)
goes (Object ∷ ps) source o out h =
    let t = through (word_at (codes "object") source o.at) (λ at. record o { at = at }) (λ n. read_pieces ps source n) out h in
    (t.0, t.1, goes ps source (record o { at = t.0 }) out t.2)
goes (Registers ∷ ps) source o out h =
    let t = through (list_at source o.at) (λ l. record o { at = l.end; list = l.list }) (λ n. read_pieces ps source n) out h in
    (t.0, t.1, goes ps source (record o { at = t.0.end; list = t.0.list }) out t.2)
goes (RegistersWithFirst ∷ ps) source o out h =
    let t = through_with (list_at source o.at) (λ l. has_register l.list o.first) (λ l. record o { at = l.end; list = l.list }) (λ l. stop l.close BadOperand) (λ n. read_pieces ps source n) out h in
    (t.0, t.1, t.2, goes ps source (record o { at = t.0.end; list = t.0.list }) out t.3)
goes (Text ∷ ps) source o out h =
    let t = through (text_at source o.at) (λ s. record o { at = s.end; name = s }) (λ n. read_pieces ps source n) out h in
    (t.0, t.1, goes ps source (record o { at = t.0.end; name = t.0 }) out t.2)
goes (Expression ∷ ps) source o out h =
    let t = through (expression_at false source o.at) (λ e. record o { at = e.end; from = o.at }) (λ n. read_pieces ps source n) out h in
    (t.0, t.1, goes ps source (record o { at = t.0.end; from = o.at }) out t.2)
goes (Expressions ∷ ps) source o out h =
    let t = through (expressions_at (length source) false source o.at) (λ s. record o { at = s.end; from = o.at }) (λ n. read_pieces ps source n) out h in
    (t.0, t.1, goes ps source (record o { at = t.0.end; from = o.at }) out t.2)
goes (WordExpressions ∷ ps) source o out h =
    let t = through (expressions_at (length source) true source o.at) (λ s. record o { at = s.end; from = o.at }) (λ n. read_pieces ps source n) out h in
    (t.0, t.1, goes ps source (record o { at = t.0.end; from = o.at }) out t.2)
