-- The lowest register of a mask, and the mask of the others.
use Rattle.std.proofs.Common.{◌≡◌, ◌≢◌, ℕ, zero, suc, ◌+◌, ◌-◌, ◌*◌, ◌%◌, ◌^◌, ◌<◌, ◌≤◌, ◌==◌, ◌⊎◌, inl, inr, Bool, true, false, List, [], ◌∷◌, length, cond, bit_and, refl, sym, ◌∙◌, ap, arith}
use Rattle.std.specs.Int.{bit_at, bit_not, trailing_zeros, w32}
use Rattle.std.proofs.lemmas.Bool.{cases_lt}
use Rattle.std.proofs.lemmas.Nat.Bits.{bit_at_above, bit_at-trailing_zeros, bit_at_clear_same, bit_at_clear_other}
use Rattle.std.specs.List.{filter}
use Rattle.thumb_core.specs.Words.{registers_of_list, numbers}
use Rattle.thumb_core.proofs.Listed.{listed_from, listed_all, listed_more, listed_none}

over : (list d k : ℕ) → k + d ≤ 16 → ((i : ℕ) → k ≤ i → i < k + d → bit_at list i ≡ 0) → listed_from k list ≡ listed_from (k + d) list
over list zero k h none = let e : k ≡ k + 0 = omega arith in ap (λ (j : ℕ). listed_from j list) e
over list (suc d) k h none =
    let e : k + 1 + d ≡ k + suc d = omega arith in
    let here : listed_from k list ≡ listed_from (k + 1) list = rw (listed_more k list (omega arith), none k (omega arith) (omega arith)) refl in
    here ∙ over list d (k + 1) (omega arith) (λ i low high. none i (omega arith) (omega arith)) ∙ ap (λ (j : ℕ). listed_from j list) e

-- masks that have the same bits from k on
same_from : (list other d k : ℕ) → k + d ≡ 16 → ((i : ℕ) → k ≤ i → i < 16 → bit_at list i ≡ bit_at other i) → listed_from k list ≡ listed_from k other
same_from list other zero k e same =
    let last : k ≡ 16 = omega arith in
    ap (λ (j : ℕ). listed_from j list) last ∙ listed_none list ∙ sym (listed_none other) ∙ ap (λ (j : ℕ). listed_from j other) (sym last)
same_from list other (suc d) k e same =
    let more : listed_from (k + 1) list ≡ listed_from (k + 1) other = same_from list other d (k + 1) (omega arith) (λ i low high. same i (omega arith) high) in
    listed_more k list (omega arith)
    ∙ (λ i. cond (same k (omega arith) (omega arith) i == 1) (k ∷ more i) (more i))
    ∙ sym (listed_more k other (omega arith))

-- a mask without its bit k
abbrev pub without : ℕ → ℕ → ℕ
without list k = bit_and list (bit_not w32 (1 * 2 ^ k % 2 ^ 32))

-- the lowest bit of a mask, and the others
pub record IsLowest (list k : ℕ) : Type 0 where
  pub within : k < 16
  pub set : bit_at list k ≡ 1
  pub is : registers_of_list list ≡ k ∷ registers_of_list (without list k)

pub lowest_of : (list : ℕ) → list < 2 ^ 16 → (list ≡ 0 → ⊥) → IsLowest list (trailing_zeros w32 list)
lowest_of list small some =
    let k = trailing_zeros w32 list in
    let p = bit_at-trailing_zeros w32 list (omega (arith, some)) (omega arith) in
    let inside : k < 16 = by_place k p.1 in
    let here : listed_from 0 list ≡ listed_from (0 + k) list = over list k 0 (omega (arith, inside)) (λ i low high. p.2 i (omega (arith, high))) in
    let zero_more : 0 + k ≡ k = omega arith in
    let apart : (i : ℕ) → i < 32 → i ≢ k → bit_at (without list k) i ≡ bit_at list i = bit_at_clear_other w32 list k p.0 in
    let first : listed_from k list ≡ k ∷ listed_from (k + 1) list = rw (listed_more k list inside, p.1) refl in
    let after : listed_from (k + 1) (without list k) ≡ listed_from (k + 1) list = same_from (without list k) list (16 - (k + 1)) (k + 1) (omega (arith, inside)) (λ i low high. apart i (omega arith) (omega (arith, low))) in
    let none_below : listed_from 0 (without list k) ≡ listed_from (0 + (k + 1)) (without list k) =
    over (without list k) (k + 1) 0 (omega (arith, inside)) (λ i low high. clear_below list k i p.0 (λ j below. p.2 j below) (omega (arith, high)) (omega (arith, high, inside))) in
    let more : 0 + (k + 1) ≡ k + 1 = omega arith in
    record {
      within = inside;
      set = p.1;
      is =
          listed_all list ∙ here ∙ ap (λ (j : ℕ). listed_from j list) zero_more ∙ first
          ∙ ap (λ (xs : List ℕ). k ∷ xs) (sym after ∙ ap (λ (j : ℕ). listed_from j (without list k)) (sym more) ∙ sym none_below ∙ sym (listed_all (without list k)));
    }
  where
    by_case : (m : ℕ) → bit_at list m ≡ 1 → (m < 16) ⊎ (16 ≤ m) → m < 16
    by_case m set (inl below) = below
    by_case m set (inr above) = let zero_there : bit_at list m ≡ 0 = bit_at_above list 16 m small above in absurd (omega (arith, zero_there, set))

    by_place : (m : ℕ) → bit_at list m ≡ 1 → m < 16
    by_place m set = by_case m set (cases_lt m 16)

    below_cases : (n k i : ℕ) → k < 32 → ((j : ℕ) → j < k → bit_at n j ≡ 0) → i < 32 → (i < k) ⊎ (k ≤ i) → i < k + 1 → bit_at (without n k) i ≡ 0
    below_cases n k i fits none word (inl low) h = bit_at_clear_other w32 n k fits i word (omega arith) ∙ none i low
    below_cases n k i fits none word (inr at) h =
        let e : i ≡ k = omega arith in
        ap (bit_at (without n k)) e ∙ bit_at_clear_same w32 n k fits

    clear_below : (n k i : ℕ) → k < 32 → ((j : ℕ) → j < k → bit_at n j ≡ 0) → i < k + 1 → i < 32 → bit_at (without n k) i ≡ 0
    clear_below n k i fits none h word = below_cases n k i fits none word (cases_lt i k) h

-- a bit that a mask lacks, it lacks without another
pub still_clear : (list k i : ℕ) → k < 16 → i < 16 → bit_at list i ≡ 0 → bit_at (without list k) i ≡ 0
still_clear list k i h inside none = by_case (cases_lt i k) (cases_lt k i)
  where
    by_case : (i < k) ⊎ (k ≤ i) → (k < i) ⊎ (i ≤ k) → bit_at (without list k) i ≡ 0
    by_case (inl low) q = bit_at_clear_other w32 list k (omega arith) i (omega arith) (omega arith) ∙ none
    by_case (inr at) (inl high) = bit_at_clear_other w32 list k (omega arith) i (omega arith) (omega arith) ∙ none
    by_case (inr at) (inr same) = let e : i ≡ k = omega arith in ap (bit_at (without list k)) e ∙ bit_at_clear_same w32 list k (omega arith)

pub listed_zero : (list : ℕ) → list ≡ 0 → registers_of_list list ≡ []
unfolding registers_of_list
listed_zero list e = ap registers_of_list e

pub listed_few : (list : ℕ) → length (registers_of_list list) ≤ 16
unfolding registers_of_list
listed_few list = filter_short (λ k. bit_at list k == 1) numbers
  where
    one_more : (b : Bool) (x : ℕ) (xs : List ℕ) (n : ℕ) → length xs ≤ n → length (cond b (x ∷ xs) xs) ≤ suc n
    one_more true x xs n h = omega arith
    one_more false x xs n h = omega arith

    filter_short : (p : ℕ → Bool) (xs : List ℕ) → length (filter p xs) ≤ length xs
    filter_short p [] = omega arith
    filter_short p (x ∷ xs) = one_more (p x) x (filter p xs) (length xs) (filter_short p xs)
