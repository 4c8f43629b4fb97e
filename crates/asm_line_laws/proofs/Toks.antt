-- Tokens of canonical lines: how they are spelled, and that the reader finds them.
use Rattle.std.proofs.Common.{◌≡◌, ℕ, zero, suc, ◌+◌, ◌-◌, ◌<◌, ◌≤◌, ◌==◌, Bool, true, false, cond, if◌then◌else◌, List, [], ◌∷◌, ◌++◌, length, take, drop, Option, Some, None, refl, ap, sym, ◌∙◌, arith, length-drop, length-append, add-zero, ℤ}
use Rattle.std.proofs.lemmas.Bool.{lt-ltb, le-leb}
use Rattle.std.proofs.lemmas.List.{append-nil, drop-drop, drop_at, take_at}
use Rattle.std.specs.List.{prefix_len}
use Rattle.asm_read.specs.declared.token.TokenKind.{TokenKind}
use Rattle.asm_read.specs.declared.token.TokenKind.TheVariants.{Word, Number, Quoted, Mark, End}
use Rattle.asm_read.specs.declared.token.Token.{Token}
use Rattle.asm_read.specs.Tokens.{is_blank, front, front_of, token, place_token, token_at}
use Rattle.asm_read.specs.Plans.{not_plain}
use Rattle.asm_read.specs.Operands.{span, bytes_of, name_of, register_of}
use Rattle.std.specs.Fmt.{signed_decimal}
use Rattle.asm_line_laws.specs.Written.{register, is_name, InRange}
use Rattle.asm_line_laws.proofs.Numbers.{front_of_number, blank_of_number, number_some}
use Rattle.asm_line_laws.proofs.Texts.{Stops, plain, front_of_name, blank_of_name}

pub data Tok : Type 0 where
  reg : ℕ → Tok
  word : List ℕ → Tok
  num : ℤ → Tok
  sign : ℕ → Tok
  quote : List ℕ → Tok

abbrev pub spelling : Tok → List ℕ
spelling (reg r) = register r
spelling (word w) = w
spelling (num z) = signed_decimal z
spelling (sign b) = b ∷ []
spelling (quote raw) = 34 ∷ (raw ++ (34 ∷ []))

-- a blank stands after a comma
abbrev pub gap : Tok → List ℕ → List ℕ
gap (sign b) rest = if b == 44 then 32 ∷ rest else rest
gap t rest = rest

abbrev pub spelled : List Tok → List ℕ
spelled [] = []
spelled (t ∷ []) = spelling t
spelled (t ∷ u ∷ ts) = spelling t ++ gap t (spelled (u ∷ ts))

-- what stands after a token
abbrev pub after : Tok → List Tok → List ℕ
after t [] = []
after t (u ∷ ts) = gap t (spelled (u ∷ ts))

pub spelled_step : (t : Tok) (ts : List Tok) → spelled (t ∷ ts) ≡ spelling t ++ after t ts
spelled_step t [] = sym (append-nil (spelling t))
spelled_step t (u ∷ ts) = refl

abbrev pub kind_of : Tok → TokenKind
kind_of (reg r) = Word
kind_of (word w) = Word
kind_of (num z) = Number z
kind_of (sign b) = Mark b
kind_of (quote raw) = Quoted

-- a token that ends where the text after it begins
abbrev pub Ends : Tok → List ℕ → Type 0
Ends (reg r) rest = (r < 16) × Stops rest
Ends (word w) rest = (is_name w ≡ true) × Stops rest
Ends (num z) rest = InRange z × Stops rest
Ends (sign b) rest = (front_of (b ∷ rest) ≡ front (Mark b) 1) × (is_blank b ≡ false) × (not_plain b ≡ false)
Ends (quote raw) rest = (front_of ((34 ∷ (raw ++ (34 ∷ []))) ++ rest) ≡ front Quoted (length (34 ∷ (raw ++ (34 ∷ []))))) × (plain raw ≡ true)

abbrev pub AllEnd : List Tok → Type 0
AllEnd [] = Unit {0}
AllEnd (t ∷ ts) = Ends t (after t ts) × AllEnd ts

pub by_register : (P : ℕ → Type 0) → P 0 → P 1 → P 2 → P 3 → P 4 → P 5 → P 6 → P 7 → P 8 → P 9 → P 10 → P 11 → P 12 → P 13 → P 14 → P 15 → (r : ℕ) → r < 16 → P r
by_register P a b c d e f g h i j k l m n o p zero w = a
by_register P a b c d e f g h i j k l m n o p (suc zero) w = b
by_register P a b c d e f g h i j k l m n o p (suc (suc zero)) w = c
by_register P a b c d e f g h i j k l m n o p (suc (suc (suc zero))) w = d
by_register P a b c d e f g h i j k l m n o p (suc (suc (suc (suc zero)))) w = e
by_register P a b c d e f g h i j k l m n o p (suc (suc (suc (suc (suc zero))))) w = f
by_register P a b c d e f g h i j k l m n o p (suc (suc (suc (suc (suc (suc zero)))))) w = g
by_register P a b c d e f g h i j k l m n o p (suc (suc (suc (suc (suc (suc (suc zero))))))) w = h
by_register P a b c d e f g h i j k l m n o p (suc (suc (suc (suc (suc (suc (suc (suc zero)))))))) w = i
by_register P a b c d e f g h i j k l m n o p (suc (suc (suc (suc (suc (suc (suc (suc (suc zero))))))))) w = j
by_register P a b c d e f g h i j k l m n o p (suc (suc (suc (suc (suc (suc (suc (suc (suc (suc zero)))))))))) w = k
by_register P a b c d e f g h i j k l m n o p (suc (suc (suc (suc (suc (suc (suc (suc (suc (suc (suc zero))))))))))) w = l
by_register P a b c d e f g h i j k l m n o p (suc (suc (suc (suc (suc (suc (suc (suc (suc (suc (suc (suc zero)))))))))))) w = m
by_register P a b c d e f g h i j k l m n o p (suc (suc (suc (suc (suc (suc (suc (suc (suc (suc (suc (suc (suc zero))))))))))))) w = n
by_register P a b c d e f g h i j k l m n o p (suc (suc (suc (suc (suc (suc (suc (suc (suc (suc (suc (suc (suc (suc zero)))))))))))))) w = o
by_register P a b c d e f g h i j k l m n o p (suc (suc (suc (suc (suc (suc (suc (suc (suc (suc (suc (suc (suc (suc (suc zero))))))))))))))) w = p
by_register P a b c d e f g h i j k l m n o p (suc (suc (suc (suc (suc (suc (suc (suc (suc (suc (suc (suc (suc (suc (suc (suc r)))))))))))))))) w = absurd (omega arith)

pub register_is_name : (r : ℕ) → r < 16 → is_name (register r) ≡ true
unfolding register
register_is_name = by_register (λ r. is_name (register r) ≡ true) refl refl refl refl refl refl refl refl refl refl refl refl refl refl refl refl

pub register_read : (r : ℕ) → r < 16 → register_of (register r) ≡ Some r
unfolding register
register_read = by_register (λ r. register_of (register r) ≡ Some r) refl refl refl refl refl refl refl refl refl refl refl refl refl refl refl refl

pub front_of_tok : (t : Tok) (rest : List ℕ) → Ends t rest → front_of (spelling t ++ rest) ≡ front (kind_of t) (length (spelling t))
front_of_tok (reg r) rest h = front_of_name (register r) rest (register_is_name r h.0) h.1
front_of_tok (word w) rest h = front_of_name w rest h.0 h.1
front_of_tok (num z) rest h = front_of_number z rest h.0 h.1
front_of_tok (sign b) rest h = h.0
front_of_tok (quote raw) rest h = h.0

pub blank_of_tok : (t : Tok) (rest : List ℕ) → Ends t rest → prefix_len is_blank (spelling t ++ rest) ≡ 0
blank_of_tok (reg r) rest h = blank_of_name (register r) rest (register_is_name r h.0)
blank_of_tok (word w) rest h = blank_of_name w rest h.0
blank_of_tok (num z) rest h = blank_of_number z rest h.0
blank_of_tok (sign b) rest h = ap (λ t. cond t (1 + prefix_len is_blank rest) 0) h.1
blank_of_tok (quote raw) rest h = refl

-- a blank in front, or none
abbrev pub lead : Bool → List ℕ → List ℕ
lead true text = 32 ∷ text
lead false text = text

abbrev pub skip : Bool → ℕ → ℕ
skip true from = from + 1
skip false from = from

skipped : (b : Bool) (line text : List ℕ) (from : ℕ) → drop from line ≡ lead b text → prefix_len is_blank text ≡ 0 → from + prefix_len is_blank (drop from line) ≡ skip b from
skipped true line text from e n = ap (λ t. from + prefix_len is_blank t) e ∙ ap (λ k. from + (1 + k)) n
skipped false line text from e n = ap (λ t. from + prefix_len is_blank t) e ∙ ap (λ k. from + k) n ∙ add-zero from

pub dropped : (b : Bool) (line text : List ℕ) (from : ℕ) → drop from line ≡ lead b text → drop (skip b from) line ≡ text
dropped true line text from e = sym (drop-drop 1 from line) ∙ ap (drop 1) e
dropped false line text from e = e

pub token_lead : (b : Bool) (line text : List ℕ) (from : ℕ) (k : TokenKind) (n : ℕ) → drop from line ≡ lead b text → prefix_len is_blank text ≡ 0 → front_of text ≡ front k n → token_at line from ≡ place_token from (skip b from) n k
unfolding token_at
token_lead b line text from k n e blank f =
    let s = skipped b line text from e blank in
    let g = ap front_of (dropped b line text from e) ∙ f in
    ap (λ x. place_token from x (front_of (drop x line)).len (front_of (drop x line)).kind) s
    ∙ ap (λ y. place_token from (skip b from) y.len y.kind) g

placed_tok : (t : Tok) (from start n : ℕ) → place_token from start n (kind_of t) ≡ token start (start + n) (kind_of t)
placed_tok (reg r) from start n = refl
placed_tok (word w) from start n = refl
placed_tok (num z) from start n = refl
placed_tok (sign b) from start n = refl
placed_tok (quote raw) from start n = refl

-- the bytes that stand at a place
pub bytes_at : (line w rest : List ℕ) (start : ℕ) → 0 < length w → drop start line ≡ w ++ rest → bytes_of line (span start (start + length w)) ≡ w
bytes_at line w rest start some e =
    let room : start + length w ≤ length line = omega (arith, length-drop start line, ap length e, length-append w rest) in
    let low : start < start + length w = omega arith in
    let size : start + length w - start ≡ length w = omega arith in
    rw (lt-ltb start (start + length w) low, le-leb (start + length w) (length line) room)
    (ap (λ n. take n (drop start line)) size ∙ ap (take (length w)) e ∙ take_at w rest (length w) refl)

abbrev pub head_kind : List Tok → TokenKind
head_kind [] = End
head_kind (t ∷ ts) = kind_of t

abbrev pub word_in : Tok → List ℕ
word_in (reg r) = register r
word_in (word w) = w
word_in (num z) = []
word_in (sign b) = []
word_in (quote raw) = []

abbrev pub head_word : List Tok → List ℕ
head_word [] = []
head_word (t ∷ ts) = word_in t

abbrev pub register_in : Tok → Option ℕ
register_in (reg r) = Some r
register_in (word w) = register_of w
register_in (num z) = None
register_in (sign b) = None
register_in (quote raw) = None

abbrev pub head_register : List Tok → Option ℕ
head_register [] = None
head_register (t ∷ ts) = register_in t

-- the bytes of a text, with its quotes
abbrev pub TextIs : List ℕ → Token → List Tok → Type 0
TextIs line found (quote raw ∷ ts) = bytes_of line (span found.start found.end) ≡ 34 ∷ (raw ++ (34 ∷ []))
TextIs line found ts = Unit {0}

-- the token of a line that is the first of these, or the line's end
pub record Heads (line : List ℕ) (from : ℕ) (ts : List Tok) (found : Token) : Type 0 where
  pub is : token_at line from ≡ found
  pub kind : found.kind ≡ head_kind ts
  pub name : name_of line found ≡ head_word ts
  pub register : register_of (head_word ts) ≡ head_register ts
  pub few : length ts ≤ length line
  pub text : TextIs line found ts

-- from a place on the line has these tokens
abbrev pub Reads : List ℕ → ℕ → List Tok → Type 0
Reads line from [] = (found : Token) × Heads line from [] found
Reads line from (t ∷ ts) = (found : Token) × Heads line from (t ∷ ts) found × Reads line found.end ts

pub filled : (w : List ℕ) → is_name w ≡ true → 0 < length w
filled [] h = cc
filled (b ∷ bs) h = omega arith

name_found : (t : Tok) (line : List ℕ) (start : ℕ) (rest : List ℕ) → Ends t rest → drop start line ≡ spelling t ++ rest → name_of line (token start (start + length (spelling t)) (kind_of t)) ≡ word_in t
name_found (reg r) line start rest h e = bytes_at line (register r) rest start (filled (register r) (register_is_name r h.0)) e
name_found (word w) line start rest h e = bytes_at line w rest start (filled w h.0) e
name_found (num z) line start rest h e = refl
name_found (sign b) line start rest h e = refl
name_found (quote raw) line start rest h e = refl

register_found : (t : Tok) (rest : List ℕ) → Ends t rest → register_of (word_in t) ≡ register_in t
register_found (reg r) rest h = register_read r h.0
register_found (word w) rest h = refl
register_found (num z) rest h = refl
register_found (sign b) rest h = refl
register_found (quote raw) rest h = refl

text_found : (t : Tok) (ts : List Tok) (line : List ℕ) (start : ℕ) → Ends t (after t ts) → drop start line ≡ spelling t ++ after t ts → TextIs line (token start (start + length (spelling t)) (kind_of t)) (t ∷ ts)
text_found (reg r) ts line start h e = tt
text_found (word w) ts line start h e = tt
text_found (num z) ts line start h e = tt
text_found (sign b) ts line start h e = tt
text_found (quote raw) ts line start h e = bytes_at line (34 ∷ (raw ++ (34 ∷ []))) (after (quote raw) ts) start (omega arith) e

-- whether a blank stands between a token and the next
gapped : Tok → List Tok → Bool
gapped t [] = false
gapped (sign b) (u ∷ ts) = b == 44
gapped t (u ∷ ts) = false

after_lead : (t : Tok) (ts : List Tok) → after t ts ≡ lead (gapped t ts) (spelled ts)
unfolding gapped
after_lead t [] = refl
after_lead (reg r) (u ∷ ts) = refl
after_lead (word w) (u ∷ ts) = refl
after_lead (num z) (u ∷ ts) = refl
after_lead (quote raw) (u ∷ ts) = refl
after_lead (sign b) (u ∷ ts) = elim (b == 44) as (λ c. (if c then 32 ∷ spelled (u ∷ ts) else spelled (u ∷ ts)) ≡ lead c (spelled (u ∷ ts))) [ true ↦ refl | false ↦ refl ]

tok_some : (t : Tok) (rest : List ℕ) → Ends t rest → 0 < length (spelling t)
tok_some (reg r) rest h = filled (register r) (register_is_name r h.0)
tok_some (word w) rest h = filled w h.0
tok_some (num z) rest h = number_some z h.0
tok_some (sign b) rest h = omega arith
tok_some (quote raw) rest h = omega arith

lead_longer : (b : Bool) (text : List ℕ) → length text ≤ length (lead b text)
lead_longer true text = omega arith
lead_longer false text = omega arith

pub toks_few : (ts : List Tok) → AllEnd ts → length ts ≤ length (spelled ts)
toks_few [] h = omega arith
toks_few (t ∷ ts) h =
    let e = ap length (spelled_step t ts) ∙ length-append (spelling t) (after t ts) in
    let here = tok_some t (after t ts) h.0 in
    let more = toks_few ts h.1 in
    let far = ap length (after_lead t ts) in
    let longer = lead_longer (gapped t ts) (spelled ts) in
    omega arith

few_of : (line : List ℕ) (ts : List Tok) (b : Bool) (from : ℕ) → AllEnd ts → drop from line ≡ lead b (spelled ts) → length ts ≤ length line
few_of line ts b from h e =
    let few = toks_few ts h in
    let longer = lead_longer b (spelled ts) in
    omega (arith, ap length e, length-drop from line)

pub reads : (line : List ℕ) (ts : List Tok) (b : Bool) (from : ℕ) → AllEnd ts → drop from line ≡ lead b (spelled ts) → Reads line from ts
unfolding front_of
reads line [] b from h e = (token from from End, record { is = token_lead b line [] from End 0 e refl refl; kind = refl; name = refl; register = refl; few = omega arith; text = tt })
reads line (t ∷ ts) b from h e =
    let start = skip b from in
    let text = e ∙ ap (lead b) (spelled_step t ts) in
    let here = dropped b line (spelling t ++ after t ts) from text in
    let found : token_at line from ≡ token start (start + length (spelling t)) (kind_of t) =
    token_lead b line (spelling t ++ after t ts) from (kind_of t) (length (spelling t)) text (blank_of_tok t (after t ts) h.0) (front_of_tok t (after t ts) h.0)
    ∙ placed_tok t from start (length (spelling t)) in
    let next : drop (start + length (spelling t)) line ≡ lead (gapped t ts) (spelled ts) =
    sym (drop-drop (length (spelling t)) start line) ∙ ap (drop (length (spelling t))) here ∙ drop_at (spelling t) (after t ts) (length (spelling t)) refl ∙ after_lead t ts in
    (token start (start + length (spelling t)) (kind_of t), record { is = found; kind = refl; name = name_found t line start (after t ts) h.0 here; register = register_found t (after t ts) h.0; few = few_of line (t ∷ ts) b from h e; text = text_found t ts line start h.0 here }, reads line ts (gapped t ts) (start + length (spelling t)) h.1 next)
