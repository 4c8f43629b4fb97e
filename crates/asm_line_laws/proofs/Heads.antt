-- What the reader finds at a place where a line has tokens.
use Rattle.std.proofs.Common.{◌≡◌, ℕ, if◌then◌else◌, List, [], ◌∷◌, ℤ, ap, sym, ◌∙◌}
use Rattle.asm_read.specs.declared.token.TokenKind.TheVariants.{Word}
use Rattle.asm_read.specs.declared.token.Token.{Token}
use Rattle.asm_read.specs.declared.form.Operands.{Operands}
use Rattle.asm_read.specs.Operands.{span, bytes_of, same, name_of, name_in, register_of, register_in as registered, register_at, past_if, is_mark_of, mark_at, mark_or_nothing, word_at, name_span, name_at, text_span, text_at, numeral, number_at, limited_number, limited_number_at}
use Rattle.asm_read.specs.Fits.{end_if, end_at}
use Rattle.asm_line_laws.proofs.Toks.{Tok, head_kind, head_word, head_register, Heads, Reads}

-- the first token of those that a line has from a place on
pub head_of : (line : List ℕ) (from : ℕ) (ts : List Tok) → Reads line from ts → (found : Token) × Heads line from ts found
head_of line from [] h = h
head_of line from (t ∷ ts) h = (h.0, h.1)

-- the bytes of a name
pub name_bytes : (line w : List ℕ) (found : Token) → found.kind ≡ Word → name_of line found ≡ w → bytes_of line (span found.start found.end) ≡ w
name_bytes line w found k n = sym (ap (name_in line (span found.start found.end)) k) ∙ n

pub register_heads : (line : List ℕ) (from : ℕ) (ts : List Tok) (found : Token) → Heads line from ts found → register_at line from ≡ registered found (head_register ts)
unfolding register_at
register_heads line from ts found h =
    ap (λ t. registered t (register_of (name_of line t))) h.is
    ∙ ap (λ n. registered found (register_of n)) h.name
    ∙ ap (registered found) h.register

pub mark_heads : (b : ℕ) (line : List ℕ) (from : ℕ) (ts : List Tok) (found : Token) → Heads line from ts found → mark_at b line from ≡ past_if (is_mark_of b (head_kind ts)) found
unfolding mark_at
mark_heads b line from ts found h = ap (λ t. past_if (is_mark_of b t.kind) t) h.is ∙ ap (λ k. past_if (is_mark_of b k) found) h.kind

pub word_heads : (w line : List ℕ) (from : ℕ) (ts : List Tok) (found : Token) → Heads line from ts found → word_at w line from ≡ past_if (same (head_word ts) w) found
unfolding word_at
word_heads w line from ts found h = ap (λ t. past_if (same (name_of line t) w) t) h.is ∙ ap (λ n. past_if (same n w) found) h.name

pub hash_heads : (line : List ℕ) (from : ℕ) (ts : List Tok) (found : Token) → Heads line from ts found → mark_or_nothing 35 line from ≡ (if is_mark_of 35 (head_kind ts) then found.end else from)
unfolding mark_or_nothing
hash_heads line from ts found h = ap (λ t. if is_mark_of 35 t.kind then t.end else from) h.is ∙ ap (λ k. if is_mark_of 35 k then found.end else from) h.kind

pub name_heads : (line : List ℕ) (from : ℕ) (ts : List Tok) (found : Token) → Heads line from ts found → name_at line from ≡ name_span found (head_kind ts)
unfolding name_at
name_heads line from ts found h = ap (λ t. name_span t t.kind) h.is ∙ ap (name_span found) h.kind

pub number_heads : (line : List ℕ) (from : ℕ) (ts : List Tok) (found : Token) → Heads line from ts found → number_at line from ≡ numeral found (head_kind ts)
unfolding number_at
number_heads line from ts found h = ap (λ t. numeral t t.kind) h.is ∙ ap (numeral found) h.kind

pub limited_heads : (high : ℤ) (line : List ℕ) (from : ℕ) (ts : List Tok) (found : Token) → Heads line from ts found → limited_number_at high line from ≡ limited_number found high (head_kind ts)
unfolding limited_number_at
limited_heads high line from ts found h = ap (λ t. limited_number t high t.kind) h.is ∙ ap (limited_number found high) h.kind

pub text_heads : (line : List ℕ) (from : ℕ) (ts : List Tok) (found : Token) → Heads line from ts found → text_at line from ≡ text_span found (head_kind ts)
unfolding text_at
text_heads line from ts found h = ap (λ t. text_span t t.kind) h.is ∙ ap (text_span found) h.kind

pub end_heads : (line : List ℕ) (o : Operands) (ts : List Tok) (found : Token) → Heads line o.at ts found → end_at line o ≡ end_if o found (head_kind ts)
unfolding end_at
end_heads line o ts found h = ap (λ t. end_if o t t.kind) h.is ∙ ap (end_if o found) h.kind
