-- Patterns of bits over a range of halfwords. What a range has in common, the bits above its block, mostly tells at once whether a
-- pattern fits none of it or all of it; else each halfword is tried.
use Rattle.std.proofs.Common.{◌≡◌, ℕ, zero, suc, ◌+◌, ◌-◌, ◌*◌, ◌/◌, ◌%◌, ◌^◌, ◌<◌, ◌≤◌, Bool, true, false, not, ◌&&◌, ◌==◌, nat_lt, bit_and, cond, refl, arith, sym, ◌∙◌, ap}
use Rattle.std.proofs.lemmas.Nat.{and_shr, and_mod, pow_pos, div-mul-add, div-add-mod'}
use Rattle.std.proofs.lemmas.Bool.Decides.{nat_tests}
use Rattle.std.specs.Int.Bits.{and_zero_r}

pub both : (a b : Bool) → (a && b) ≡ true → (a ≡ true) × (b ≡ true)
both true b h = (refl, h)
both false b h = cc

-- each of the n numbers from k up passes
abbrev pub all_from : (ℕ → Bool) → ℕ → ℕ → Bool
all_from p zero k = true
all_from p (suc n) k = p k && all_from p n (k + 1)

pub all_from_at : (p : ℕ → Bool) (n k : ℕ) → all_from p n k ≡ true → (m : ℕ) → k ≤ m → m < k + n → p m ≡ true
all_from_at p zero k h m low high = absurd (omega arith)
all_from_at p (suc n) k h m low high =
    let two = both (p k) (all_from p n (k + 1)) h in
    all_from_step p n k m two.0 (λ l. all_from_at p n (k + 1) two.1 m l (omega arith)) low
  where
    all_from_step : (p : ℕ → Bool) (n k m : ℕ) → p k ≡ true → (k + 1 ≤ m → p m ≡ true) → k ≤ m → p m ≡ true
    all_from_step p n k m here later low = grind arith

-- the n numbers from low up lie in one block of 2 ^ k
abbrev pub is_within : ℕ → ℕ → ℕ → Bool
is_within k low n = nat_lt (low % 2 ^ k + n) (2 ^ k + 1)

-- the least such k from k on, of so many
abbrev pub block_from : ℕ → ℕ → ℕ → ℕ → ℕ
block_from zero k low n = k
block_from (suc more) k low n = let larger = block_from more (k + 1) low n in cond (is_within k low n) k larger

abbrev pub block_of : ℕ → ℕ → ℕ
block_of low n = block_from 16 0 low n

-- the bits above the block fit those of the pattern
abbrev pub fits_above : ℕ → ℕ → ℕ → ℕ → Bool
fits_above k mask value low = bit_and (low / 2 ^ k) (mask / 2 ^ k) == value / 2 ^ k

abbrev pub none_by : ℕ → ℕ → ℕ → ℕ → ℕ → Bool
none_by k mask value low n =
    let each = all_from (λ h. not (bit_and h mask == value)) n low in
    cond (is_within k low n && not (fits_above k mask value low)) true each

-- none of the n halfwords from low up fits the pattern
abbrev pub none_in : ℕ → ℕ → ℕ → ℕ → Bool
none_in mask value low n = none_by (block_of low n) mask value low n

-- the pattern has no bits below the block
abbrev pub is_above : ℕ → ℕ → ℕ → Bool
is_above k mask value = (mask % 2 ^ k == 0) && (value % 2 ^ k == 0)

abbrev pub all_by : ℕ → ℕ → ℕ → ℕ → ℕ → Bool
all_by k mask value low n =
    let each = all_from (λ h. bit_and h mask == value) n low in
    cond (is_within k low n && (is_above k mask value && fits_above k mask value low)) true each

-- each of the n halfwords from low up fits the pattern
abbrev pub all_in : ℕ → ℕ → ℕ → ℕ → Bool
all_in mask value low n = all_by (block_of low n) mask value low n

within_block : (w q r n d : ℕ) → r + n ≤ w → d < n → (q * w + (r + d)) / w ≡ q
within_block w q r n d h l = div-mul-add q w (r + d) (omega arith)

same_block : (k low n h : ℕ) → is_within k low n ≡ true → low ≤ h → h < low + n → h / 2 ^ k ≡ low / 2 ^ k
same_block k low n h t above below =
    let w = 2 ^ k in
    let parts = div-add-mod' low w in
    let room : low % 2 ^ k + n ≤ 2 ^ k = grind (arith, nat_tests) in
    let moved : h ≡ low / 2 ^ k * 2 ^ k + (low % 2 ^ k + (h - low)) = omega (arith, div-add-mod' low (2 ^ k)) in
    let at = within_block (2 ^ k) (low / 2 ^ k) (low % 2 ^ k) n (h - low) room (omega arith) in
    ap (λ m. m / 2 ^ k) moved ∙ at

above_of : (k mask low h : ℕ) → h / 2 ^ k ≡ low / 2 ^ k → bit_and h mask / 2 ^ k ≡ bit_and (low / 2 ^ k) (mask / 2 ^ k)
above_of k mask low h e = and_shr h mask k ∙ ap (λ m. bit_and m (mask / 2 ^ k)) e

eq_of : (a b : ℕ) → (a == b) ≡ true → a ≡ b
eq_of a b h = grind (arith, nat_tests)

is_eq : (a b : ℕ) → a ≡ b → (a == b) ≡ true
is_eq a b h = grind (arith, nat_tests)

of_not : (b : Bool) → not b ≡ true → b ≡ false
of_not true h = cc
of_not false h = refl

not_of : (b : Bool) → (b ≡ true → false ≡ true) → not b ≡ true
not_of true h = let e : false ≡ true = h refl in cc
not_of false h = refl

cond_cases : (a each goal : Bool) → cond a true each ≡ true → (a ≡ true → goal ≡ true) → (each ≡ true → goal ≡ true) → goal ≡ true
cond_cases true each goal h f g = f refl
cond_cases false each goal h f g = g h

pub fits_none : (k mask value low h : ℕ) → h / 2 ^ k ≡ low / 2 ^ k → not (fits_above k mask value low) ≡ true → not (bit_and h mask == value) ≡ true
fits_none k mask value low h e t =
    not_of (bit_and h mask == value)
    (λ fits.
    let is : bit_and (low / 2 ^ k) (mask / 2 ^ k) ≡ value / 2 ^ k = sym (above_of k mask low h e) ∙ ap (λ m. m / 2 ^ k) (eq_of (bit_and h mask) value fits) in
    let yes = is_eq (bit_and (low / 2 ^ k) (mask / 2 ^ k)) (value / 2 ^ k) is in
    let no = of_not (fits_above k mask value low) t in
    sym no ∙ yes)

pub none_in_at : (mask value low n : ℕ) → none_in mask value low n ≡ true → (h : ℕ) → low ≤ h → h < low + n → not (bit_and h mask == value) ≡ true
none_in_at mask value low n t h above below =
    let k = block_of low n in
    cond_cases (is_within k low n && not (fits_above k mask value low)) (all_from (λ h. not (bit_and h mask == value)) n low) (not (bit_and h mask == value)) t
    (λ a.
    let two = both (is_within k low n) (not (fits_above k mask value low)) a in
    fits_none k mask value low h (same_block k low n h two.0 above below) two.1)
    (λ each. all_from_at (λ h. not (bit_and h mask == value)) n low each h above below)

pub fits_all : (k mask value low h : ℕ) → h / 2 ^ k ≡ low / 2 ^ k → (mask % 2 ^ k == 0) ≡ true → (value % 2 ^ k == 0) ≡ true → fits_above k mask value low ≡ true → (bit_and h mask == value) ≡ true
fits_all k mask value low h e m v t =
    let high : bit_and h mask / 2 ^ k ≡ value / 2 ^ k = above_of k mask low h e ∙ eq_of _ _ t in
    let low_bits : bit_and h mask % 2 ^ k ≡ 0 = and_mod h mask k ∙ ap (λ m. bit_and (h % 2 ^ k) m) (eq_of _ _ m) ∙ and_zero_r (h % 2 ^ k) in
    let none : value % 2 ^ k ≡ 0 = eq_of _ _ v in
    let one : bit_and h mask ≡ bit_and h mask / 2 ^ k * 2 ^ k + bit_and h mask % 2 ^ k = sym (div-add-mod' (bit_and h mask) (2 ^ k)) in
    let two : value / 2 ^ k * 2 ^ k + value % 2 ^ k ≡ value = div-add-mod' value (2 ^ k) in
    is_eq (bit_and h mask) value
    (one ∙ ap (λ m. m * 2 ^ k + bit_and h mask % 2 ^ k) high ∙ ap (λ m. value / 2 ^ k * 2 ^ k + m) (low_bits ∙ sym none) ∙ two)

pub all_in_at : (mask value low n : ℕ) → all_in mask value low n ≡ true → (h : ℕ) → low ≤ h → h < low + n → (bit_and h mask == value) ≡ true
all_in_at mask value low n t h above below =
    let k = block_of low n in
    cond_cases (is_within k low n && (is_above k mask value && fits_above k mask value low)) (all_from (λ h. bit_and h mask == value) n low) (bit_and h mask == value) t
    (λ a.
    let two = both (is_within k low n) (is_above k mask value && fits_above k mask value low) a in
    let more = both (is_above k mask value) (fits_above k mask value low) two.1 in
    let bits = both (mask % 2 ^ k == 0) (value % 2 ^ k == 0) more.0 in
    fits_all k mask value low h (same_block k low n h two.0 above below) bits.0 bits.1 more.1)
    (λ each. all_from_at (λ h. bit_and h mask == value) n low each h above below)
