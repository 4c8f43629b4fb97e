-- A word with operands stands for the statement of the form that its tokens choose.
use Rattle.std.proofs.Common.{◌≡◌, ℕ, ◌+◌, ◌<◌, ◌≤◌, ◌==◌, if◌then◌else◌, not, ◌&&◌, true, false, List, [], ◌∷◌, ◌++◌, length, Ok, ℤ, refl, ap, sym, subst, ◌∙◌, arith, codes, length-append}
use Rattle.std.proofs.lemmas.List.Folds.{list_all-append}
use Rattle.std.proofs.lemmas.List.{append-nil}
use Rattle.asm_read.specs.declared.form.Operands.{Operands}
use Rattle.asm_read.specs.declared.makes.Makes.{Makes}
use Rattle.asm_read.specs.declared.plan.TheConstants.{LONGEST}
use Rattle.asm_statements.specs.declared.statement.StmtKind.{StmtKind}
use Rattle.asm_read.specs.Tokens.{is_digit, is_name_byte, front_of, front}
use Rattle.asm_read.specs.Operands.{is_mark_of}
use Rattle.asm_read.specs.Forms.{rows}
use Rattle.asm_read.specs.Plans.{not_plain, is_passed}
use Rattle.asm_read.specs.Statements.{kind_of as kind_made}
use Rattle.asm_read.specs.Reading.{stmt, source_stmts}
use Rattle.asm_line_laws.specs.Written.{register, is_name, line}
use Rattle.asm_line_laws.proofs.Numbers.{number_plain, number_short}
use Rattle.asm_line_laws.proofs.Texts.{plain, both, name_plain, differ, and_left, and_right, not_true}
use Rattle.asm_line_laws.proofs.Toks.{Tok, reg, word, num, sign, quote, spelling, spelled, after, spelled_step, Ends, AllEnd, by_register, head_kind}
use Rattle.asm_line_laws.proofs.Items.{Item, tok, flat}
use Rattle.asm_line_laws.proofs.Fitted.{Vals, nothing, none_yet, Agrees}
use Rattle.asm_line_laws.proofs.Chosen.{picked, chosen, after_word, line_is}
use Rattle.asm_read.specs.declared.token.TokenKind.TheVariants.{Mark}
use Rattle.std.specs.List.{list_all}

-- the most bytes of a token and a blank after it
unfoldable pub cost : Tok → ℕ
cost (reg r) = 3
cost (word w) = length w
cost (num z) = 11
cost (sign b) = 2
cost (quote raw) = length raw + 2

unfoldable pub costs : List Tok → ℕ
costs [] = 0
costs (t ∷ ts) = cost t + costs ts

pub register_short : (r : ℕ) → r < 16 → length (register r) ≤ 3
unfolding register
register_short = by_register (λ r. length (register r) ≤ 3) (omega arith) (omega arith) (omega arith) (omega arith) (omega arith) (omega arith) (omega arith) (omega arith) (omega arith) (omega arith) (omega arith) (omega arith) (omega arith) (omega arith) (omega arith) (omega arith)

register_plain : (r : ℕ) → r < 16 → plain (register r) ≡ true
unfolding register
register_plain = by_register (λ r. plain (register r) ≡ true) refl refl refl refl refl refl refl refl refl refl refl refl refl refl refl refl

tok_short : (t : Tok) (ts : List Tok) → Ends t (after t ts) → length (spelling t) + length (after t ts) ≤ cost t + length (spelled ts)
unfolding cost
tok_short (reg r) [] h = omega (arith, register_short r h.0)
tok_short (reg r) (u ∷ ts) h = omega (arith, register_short r h.0)
tok_short (word w) [] h = omega arith
tok_short (num z) [] h = omega (arith, number_short z h.0)
tok_short (num z) (u ∷ ts) h = omega (arith, number_short z h.0)
tok_short (word w) (u ∷ ts) h = omega arith
tok_short (quote raw) [] h = omega (arith, length-append raw (34 ∷ []))
tok_short (quote raw) (u ∷ ts) h = omega (arith, length-append raw (34 ∷ []))
tok_short (sign b) [] h = omega arith
tok_short (sign b) (u ∷ ts) h = elim (b == 44) as (λ c. 1 + length (if c then 32 ∷ spelled (u ∷ ts) else spelled (u ∷ ts)) ≤ 2 + length (spelled (u ∷ ts))) [ true ↦ omega arith | false ↦ omega arith ]

spelled_short : (ts : List Tok) → AllEnd ts → length (spelled ts) ≤ costs ts
unfolding costs
spelled_short [] h = omega arith
spelled_short (t ∷ ts) h =
    let e = ap length (spelled_step t ts) ∙ length-append (spelling t) (after t ts) in
    let more = spelled_short ts h.1 in
    let here = tok_short t ts h.0 in
    omega arith

tok_plain : (t : Tok) (rest : List ℕ) → Ends t rest → plain (spelling t) ≡ true
tok_plain (reg r) rest h = register_plain r h.0
tok_plain (word w) rest h = name_plain w h.0
tok_plain (num z) rest h = number_plain z h.0
tok_plain (sign b) rest h = ap (λ t. not t && true) h.2
tok_plain (quote raw) rest h = list_all-append (λ b. not (not_plain b)) raw (34 ∷ []) ∙ both (plain raw) true h.1 refl

after_plain : (t : Tok) (ts : List Tok) → plain (spelled ts) ≡ true → plain (after t ts) ≡ true
after_plain t [] h = refl
after_plain (reg r) (u ∷ ts) h = h
after_plain (word w) (u ∷ ts) h = h
after_plain (num z) (u ∷ ts) h = h
after_plain (quote raw) (u ∷ ts) h = h
after_plain (sign b) (u ∷ ts) h = elim (b == 44) as (λ c. plain (if c then 32 ∷ spelled (u ∷ ts) else spelled (u ∷ ts)) ≡ true) [ true ↦ h | false ↦ h ]

spelled_plain : (ts : List Tok) → AllEnd ts → plain (spelled ts) ≡ true
spelled_plain [] h = refl
spelled_plain (t ∷ ts) h =
    ap plain (spelled_step t ts)
    ∙ list_all-append (λ b. not (not_plain b)) (spelling t) (after t ts)
    ∙ both (plain (spelling t)) (plain (after t ts)) (tok_plain t (after t ts) h.0) (after_plain t ts (spelled_plain ts h.1))

-- a mnemonic
pub record IsMnemonic (w : List ℕ) : Type 0 where
  pub named : is_name w ≡ true
  pub kept : is_passed w ≡ false
  pub clean : plain w ≡ true
  pub brief : length w ≤ 20

after_is : (w : List ℕ) (ts : List Tok) → 0 < length ts → w ++ after_word ts ≡ line w (spelled ts)
after_is w [] h = absurd (omega arith)
after_is w (t ∷ ts) h = refl

-- a word with operands that no label's colon begins, as a statement; the line is short
pub stands_in : (w : List ℕ) (ts : List Item) (m : Makes) (v : Vals) (k : StmtKind) → IsMnemonic w → 0 < length (flat ts) → AllEnd (flat ts) → is_mark_of 58 (head_kind (flat ts)) ≡ false → length w + length (spelled (flat ts)) < LONGEST → chosen rows w ts ≡ picked m v → ((line : List ℕ) (o : Operands) → Agrees line o v → kind_made line (record { makes = m; operands = o }) ≡ k) → source_stmts (line w (spelled (flat ts))) ≡ Ok (stmt 1 k ∷ [])
stands_in w ts m v k is some ends colon few choice makes =
    let rest = spelled_plain (flat ts) ends in
    let long = length-append w (32 ∷ spelled (flat ts)) in
    let e = after_is w (flat ts) some in
    subst (λ x. source_stmts x ≡ Ok (stmt 1 k ∷ [])) e
    (line_is w ts m v k is.named is.kept ends colon
    (ap plain e ∙ list_all-append (λ b. not (not_plain b)) w (32 ∷ spelled (flat ts)) ∙ both (plain w) (plain (32 ∷ spelled (flat ts))) is.clean rest)
    (let size = ap length e in omega arith) choice makes)

pub stands : (w : List ℕ) (ts : List Item) (m : Makes) (v : Vals) (k : StmtKind) → IsMnemonic w → 0 < length (flat ts) → AllEnd (flat ts) → is_mark_of 58 (head_kind (flat ts)) ≡ false → costs (flat ts) ≤ 235 → chosen rows w ts ≡ picked m v → ((line : List ℕ) (o : Operands) → Agrees line o v → kind_made line (record { makes = m; operands = o }) ≡ k) → source_stmts (line w (spelled (flat ts))) ≡ Ok (stmt 1 k ∷ [])
stands w ts m v k is some ends colon few choice makes =
    let short = spelled_short (flat ts) ends in
    let brief = is.brief in
    stands_in w ts m v k is some ends colon (omega arith) choice makes

-- a word alone
pub alone : (w : List ℕ) (m : Makes) (k : StmtKind) → IsMnemonic w → chosen rows w [] ≡ picked m none_yet → ((line : List ℕ) (o : Operands) → kind_made line (record { makes = m; operands = o }) ≡ k) → source_stmts w ≡ Ok (stmt 1 k ∷ [])
alone w m k is choice makes =
    let brief = is.brief in
    let e = append-nil w in
    subst (λ x. source_stmts x ≡ Ok (stmt 1 k ∷ [])) e
    (line_is w [] m none_yet k is.named is.kept tt refl (subst (λ x. plain x ≡ true) (sym e) is.clean) (subst (λ x. length x ≤ LONGEST) (sym e) (omega arith)) choice (λ line o a. makes line o))

pub comma_ends : (rest : List ℕ) → Ends (sign 44) rest
unfolding front_of
comma_ends rest = (refl, refl, refl)

pub open_ends : (rest : List ℕ) → Ends (sign 91) rest
unfolding front_of
open_ends rest = (refl, refl, refl)

pub close_ends : (rest : List ℕ) → Ends (sign 93) rest
unfolding front_of
close_ends rest = (refl, refl, refl)

pub hash_ends : (rest : List ℕ) → Ends (sign 35) rest
unfolding front_of
hash_ends rest = (refl, refl, refl)

pub percent_ends : (rest : List ℕ) → Ends (sign 37) rest
unfolding front_of
percent_ends rest = (refl, refl, refl)

minus_front_of : (b : ℕ) (bs : List ℕ) → is_digit b ≡ false → (b == 39) ≡ false → front_of (45 ∷ b ∷ bs) ≡ front (Mark 45) 1
unfolding front_of
minus_front_of b bs d q = rw (q, d) refl

-- a minus sign before a name is a mark
pub minus_before : (w rest : List ℕ) → is_name w ≡ true → Ends (sign 45) (w ++ rest)
minus_before [] rest h = cc
minus_before (b ∷ bs) rest h =
    let digit = not_true (is_digit b) (and_left (not (is_digit b)) (list_all is_name_byte (b ∷ bs)) h) in
    let named = and_left (is_name_byte b) (list_all is_name_byte bs) (and_right (not (is_digit b)) (list_all is_name_byte (b ∷ bs)) h) in
    (minus_front_of b (bs ++ rest) digit (differ is_name_byte b 39 named refl), refl, refl)

pub minus_ends : (w : List ℕ) → is_name w ≡ true → Ends (sign 45) w
minus_ends w h = subst (λ x. Ends (sign 45) x) (append-nil w) (minus_before w [] h)

-- the word sp
abbrev pub sp : Item
sp = tok (word (codes "sp"))

abbrev pub values : ℕ → ℕ → ℕ → ℤ → List ℕ → Vals
values a b c z n = record { first = a; second = b; third = c; list = 0; number = z; name = n; value = nothing }
