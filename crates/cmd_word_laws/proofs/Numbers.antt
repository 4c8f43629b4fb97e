-- What the digits of a word write.
use Rattle.std.specs.Prelude.{if◌then◌else◌, nat_le}
use Rattle.std.specs.Char.{is_ascii_digit}
use Rattle.std.proofs.Common.{◌≡◌, ◌↔◌, ℕ, ◌+◌, ◌-◌, ◌*◌, ◌^◌, ◌≤◌, ◌&&◌, Bool, true, false, List, [], ◌∷◌, length, Option, Some, None, refl, ap, subst, ◌∙◌, arith}
use Rattle.std.proofs.Math.Nat.{pow-zero, pow-succ'}
use Rattle.std.proofs.lemmas.Bool.{leb-true, le-leb, and_parts, and_from}
use Rattle.std.proofs.lemmas.Option.{same_Some, none-some}
use Rattle.cmd_input.specs.Words.{digits_from, number_of, if_between, budget_of, program_number, program_functions}
use Rattle.cmd_word_laws.specs.Words.{Writes, IsNumber, IsBudget}

-- ---- digits

digit_range : (b : ℕ) → is_ascii_digit b ≡ true → (48 ≤ b) × (b ≤ 57)
digit_range b e = let p = and_parts (nat_le 48 b) (nat_le b 57) e in (leb-true 48 b p.0, leb-true b 57 p.1)

is_digit : (b d : ℕ) → b ≡ 48 + d → d ≤ 9 → is_ascii_digit b ≡ true
is_digit b d e h = and_from (nat_le 48 b) (nat_le b 57) (le-leb 48 b (omega (arith, e))) (le-leb b 57 (omega (arith, e, h)))

-- a digit's place counts ten of the next one
place : (m d v n low high : ℕ) → high ≡ 10 * low → n ≡ (m * 10 + d) * low + v → n ≡ m * high + (d * low + v)
place m d v n low high e f = omega (arith, f, ap (λ x. m * x) e)

place_back : (m d v n low high whole : ℕ) → high ≡ 10 * low → whole ≡ d * low + v → n ≡ m * high + whole → n ≡ (m * 10 + d) * low + v
place_back m d v n low high whole e w f = omega (arith, f, w, ap (λ x. m * x) e)

read : (m n : ℕ) (bs : List ℕ) → digits_from m bs ≡ Some n → (v : ℕ) × Writes bs v × (n ≡ m * 10 ^ length bs + v)
read m n [] e = (0, refl, omega (arith, same_Some m n e, ap (λ x. m * x) (pow-zero 10)))
read m n (b ∷ bs) e = go (is_ascii_digit b) refl e (λ f. read (m * 10 + (b - 48)) n bs f)
  where
    go : (t : Bool) → is_ascii_digit b ≡ t → (if t then digits_from (m * 10 + (b - 48)) bs else None) ≡ Some n
        → (digits_from (m * 10 + (b - 48)) bs ≡ Some n → (v : ℕ) × Writes bs v × (n ≡ (m * 10 + (b - 48)) * 10 ^ length bs + v))
        → (v : ℕ) × Writes (b ∷ bs) v × (n ≡ m * 10 ^ length (b ∷ bs) + v)
    go false d f next = absurd (none-some n f)
    go true d f next =
        let range = digit_range b d in
        let low = range.0 in
        let high = range.1 in
        let more = next f in (
          (b - 48) * 10 ^ length bs + more.0,
          (b - 48, more.0, omega (arith, low), omega (arith, high), more.1, refl),
          place m (b - 48) more.0 n (10 ^ length bs) (10 ^ length (b ∷ bs)) (pow-succ' 10 (length bs)) more.2,
        )

write : (m v n : ℕ) (bs : List ℕ) → Writes bs v → n ≡ m * 10 ^ length bs + v → digits_from m bs ≡ Some n
write m v n [] w e = ap Some (omega (arith, w, e, ap (λ x. m * x) (pow-zero 10)))
write m v n (b ∷ bs) w e =
    let byte = w.2 in
    let digit : b - 48 ≡ w.0 = omega (arith, byte) in
    ap (λ t. if t then digits_from (m * 10 + (b - 48)) bs else None) (is_digit b w.0 w.2 w.3)
    ∙ ap (λ d. digits_from (m * 10 + d) bs) digit
    ∙ write (m * 10 + w.0) w.1 n bs w.4 (place_back m w.0 w.1 n (10 ^ length bs) (10 ^ length (b ∷ bs)) v (pow-succ' 10 (length bs)) w.5 e)

-- ---- words

module _ (most n : ℕ) (bs : List ℕ) where
  by_length : (some few : Bool) → nat_le 1 (length bs) ≡ some → nat_le (length bs) most ≡ few → (if some && few then digits_from 0 bs else None) ≡ Some n → IsNumber most bs n
  by_length true true p q e =
      let found = read 0 n bs e in
      let same : found.0 ≡ n = (let is = found.2 in omega (arith, is)) in
      record { some = leb-true 1 (length bs) p; few = leb-true (length bs) most q; writes = subst (Writes bs) same found.1 }
  by_length true false p q e = absurd (none-some n e)
  by_length false few p q e = absurd (none-some n e)

  pub number : (number_of most bs ≡ Some n) ↔ IsNumber most bs n
  unfolding number_of
  number = (
    λ e. by_length (nat_le 1 (length bs)) (nat_le (length bs) most) refl refl e,
    λ h. ap (λ t. if t then digits_from 0 bs else None) (and_from (nat_le 1 (length bs)) (nat_le (length bs) most) (le-leb 1 (length bs) h.some) (le-leb (length bs) most h.few)) ∙ write 0 n n bs h.writes (omega arith),
  )

between : (low high k n : ℕ) → if_between low high (Some k) ≡ Some n → (k ≡ n) × (low ≤ n) × (n ≤ high)
between low high k n e = go (nat_le low k) (nat_le k high) refl refl e
  where
    go : (above below : Bool) → nat_le low k ≡ above → nat_le k high ≡ below → (if above && below then Some k else None) ≡ Some n → (k ≡ n) × (low ≤ n) × (n ≤ high)
    go true true p q e =
        let same = same_Some k n e in
        (same, omega (arith, same, leb-true low k p), omega (arith, same, leb-true k high q))
    go true false p q e = absurd (none-some n e)
    go false below p q e = absurd (none-some n e)

bounded : (low high n : ℕ) (o : Option ℕ) → if_between low high o ≡ Some n → (o ≡ Some n) × (low ≤ n) × (n ≤ high)
bounded low high n None e = absurd (none-some n e)
bounded low high n (Some k) e = let b = between low high k n e in (ap Some b.0, b.1, b.2)

within : (low high n : ℕ) (o : Option ℕ) → o ≡ Some n → low ≤ n → n ≤ high → if_between low high o ≡ Some n
within low high n o e above below =
    ap (if_between low high) e ∙ ap (λ t. if t then Some n else None) (and_from (nat_le low n) (nat_le n high) (le-leb low n above) (le-leb n high below))

pub budget : (bs : List ℕ) (n : ℕ) → (budget_of bs ≡ Some n) ↔ IsBudget bs n
unfolding budget_of
budget bs n = (
  λ e. let b = bounded 1 1000000000 n (number_of 10 bs) e in record { number = (number 10 n bs).0 b.0; least = b.1; most = b.2 },
  λ h. within 1 1000000000 n (number_of 10 bs) ((number 10 n bs).1 h.number) h.least h.most,
)

pub program : (bs : List ℕ) (n : ℕ) → (program_number bs ≡ Some n) ↔ (IsNumber 10 bs n × (n ≤ 4294967295))
unfolding program_number
program bs n = (
  λ e. let b = bounded 0 4294967295 n (number_of 10 bs) e in ((number 10 n bs).0 b.0, b.2),
  λ h. within 0 4294967295 n (number_of 10 bs) ((number 10 n bs).1 h.0) (omega arith) h.1,
)

pub functions : (bs : List ℕ) (n : ℕ) → (program_functions bs ≡ Some n) ↔ (IsNumber 4 bs n × (1 ≤ n) × (n ≤ 4000))
unfolding program_functions
functions bs n = (
  λ e. let b = bounded 1 4000 n (number_of 4 bs) e in ((number 4 n bs).0 b.0, b.1, b.2),
  λ h. within 1 4000 n (number_of 4 bs) ((number 4 n bs).1 h.0) h.1 h.2,
)
