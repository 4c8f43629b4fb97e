-- The filter at an address, among catches in rising order.
use Rattle.std.proofs.Common.{◌≡◌, ℕ, zero, suc, ◌+◌, ◌<◌, ◌≤◌, ◌==◌, nat_lt, Bool, true, false, cond, List, [], ◌∷◌, length, get_or, Option, Some, None, refl, sym, ap, ◌∙◌, arith, inl, inr}
use Rattle.std.proofs.lemmas.Bool.Decides.{nat_tests}
use Rattle.std.proofs.lemmas.Bool.{cases_lt}
use Rattle.std.specs.Map.{keys_of}
use Rattle.std.specs.Ordering.{nat_cmp}
use Rattle.std.specs.List.{prefix_len}
use Rattle.std.specs.List.Sorted.{IsStrictlySortedBy}
use Rattle.elf_image.proofs.Search.{Ascend}
use Rattle.elf_image.proofs.Entries.{Rising, rising_lower, rising_from_sorted}
use Rattle.gnu_descriptors.specs.Filters.{filter_in}

-- ---- the addresses rise

ascend : (low : ℕ) (fs : List (ℕ × ℕ)) → Rising low fs → Ascend (λ (x : ℕ × ℕ). x.0) low fs
ascend low [] h = tt
ascend low (f ∷ fs) h = (h.0, ascend f.0 fs (rising_lower f.0 (f.0 + 1) fs (omega arith) h.1))

pub filters_ascend : (fs : List (ℕ × ℕ)) → IsStrictlySortedBy nat_cmp (keys_of fs) → Ascend (λ (x : ℕ × ℕ). x.0) 0 fs
filters_ascend fs h = ascend 0 fs (rising_from_sorted fs h)

-- ---- tests

isnt : (a b : ℕ) → a < b → (a == b) ≡ false
isnt a b h = grind (arith, nat_tests)

isnt_back : (a b : ℕ) → b < a → (a == b) ≡ false
isnt_back a b h = grind (arith, nat_tests)

is_own : (a b : ℕ) → a ≡ b → (a == b) ≡ true
is_own a b h = grind (arith, nat_tests)

isnt_same : (a b : ℕ) → (a ≡ b → ⊥) → (a == b) ≡ false
isnt_same a b h = grind (arith, nat_tests)

is_lower : (a b : ℕ) → a < b → nat_lt a b ≡ true
is_lower a b h = grind (arith, nat_tests)

isnt_lower : (a b : ℕ) → b ≤ a → nat_lt a b ≡ false
isnt_lower a b h = grind (arith, nat_tests)

-- ---- what halving finds

-- below the first address there is none
none_below : (low desc : ℕ) (fs : List (ℕ × ℕ)) → Rising low fs → desc < low → filter_in fs desc ≡ None
none_below low desc [] h below = refl
none_below low desc (f ∷ fs) h below = rw (isnt_back f.0 desc (omega (arith, h.0))) (none_below (f.0 + 1) desc fs h.1 (omega (arith, h.0)))

-- the filter of the catch at a number, if it stands at the address
abbrev pub at_number : List (ℕ × ℕ) → ℕ → ℕ → ℕ × ℕ → Option ℕ
at_number fs desc k d = cond (nat_lt k (length fs)) (cond ((get_or fs k d).0 == desc) (Some (get_or fs k d).1) None) None

same_test : (k n : ℕ) → nat_lt k n ≡ nat_lt (suc k) (suc n)
same_test k n = elim (cases_lt k n) [
  | inl below ↦ is_lower k n below ∙ sym (is_lower (suc k) (suc n) (omega arith))
  | inr above ↦ isnt_lower k n above ∙ sym (isnt_lower (suc k) (suc n) (omega arith))
]

number_suc : (f : ℕ × ℕ) (fs : List (ℕ × ℕ)) (desc k : ℕ) (d : ℕ × ℕ) → at_number fs desc k d ≡ at_number (f ∷ fs) desc (suc k) d
number_suc f fs desc k d = ap (λ (b : Bool). cond b (cond ((get_or fs k d).0 == desc) (Some (get_or fs k d).1) None) None) (same_test k (length fs))

number_more : (f : ℕ × ℕ) (fs : List (ℕ × ℕ)) (desc k : ℕ) (d : ℕ × ℕ) → at_number fs desc k d ≡ at_number (f ∷ fs) desc (1 + k) d
number_more f fs desc k d = let e : suc k ≡ 1 + k = omega arith in number_suc f fs desc k d ∙ ap (λ (n : ℕ). at_number (f ∷ fs) desc n d) e

number_first : (f : ℕ × ℕ) (fs : List (ℕ × ℕ)) (desc : ℕ) (d : ℕ × ℕ) → at_number (f ∷ fs) desc 0 d ≡ cond (f.0 == desc) (Some f.1) None
number_first f fs desc d = ap (λ (b : Bool). cond b (cond (f.0 == desc) (Some f.1) None) None) (is_lower 0 (suc (length fs)) (omega arith))

found : (low desc : ℕ) (fs : List (ℕ × ℕ)) (d : ℕ × ℕ) → Rising low fs → filter_in fs desc ≡ at_number fs desc (prefix_len (λ (f : ℕ × ℕ). nat_lt f.0 desc) fs) d
found low desc [] d h = refl
found low desc (f ∷ fs) d h =
    elim (cases_lt f.0 desc) [
      | inl below ↦
          rw (is_lower f.0 desc below, isnt f.0 desc below) (found (f.0 + 1) desc fs d h.1 ∙ number_more f fs desc (prefix_len (λ (f : ℕ × ℕ). nat_lt f.0 desc) fs) d)
      | inr at ↦ rw (isnt_lower f.0 desc at) (here at (f.0 == desc) refl ∙ sym (number_first f fs desc d))
    ]
  where
    here : desc ≤ f.0 → (b : Bool) → (f.0 == desc) ≡ b → cond b (Some f.1) (filter_in fs desc) ≡ cond b (Some f.1) None
    here at true e = refl
    here at false e = let above : desc < f.0 = grind (arith, nat_tests) in none_below (f.0 + 1) desc fs h.1 (omega arith)

-- ---- as the code asks

pub filter_past : (fs : List (ℕ × ℕ)) (desc k : ℕ) → IsStrictlySortedBy nat_cmp (keys_of fs) → k ≡ prefix_len (λ f. nat_lt f.0 desc) fs → k ≡ length fs → filter_in fs desc ≡ None
filter_past fs desc k s e past =
    let t : nat_lt k (length fs) ≡ false = isnt_lower k (length fs) (omega arith) in
    found 0 desc fs (0, 0) (rising_from_sorted fs s) ∙ rw (← e, t) refl

pub filter_there : (fs : List (ℕ × ℕ)) (desc k : ℕ) (d : ℕ × ℕ) → IsStrictlySortedBy nat_cmp (keys_of fs) → k ≡ prefix_len (λ f. nat_lt f.0 desc) fs → k < length fs
    → (get_or fs k d).0 ≡ desc → filter_in fs desc ≡ Some (get_or fs k d).1
filter_there fs desc k d s e inside same =
    let t : nat_lt k (length fs) ≡ true = is_lower k (length fs) inside in
    let u : ((get_or fs k d).0 == desc) ≡ true = is_own (get_or fs k d).0 desc same in
    found 0 desc fs d (rising_from_sorted fs s) ∙ rw (← e, t, u) refl

pub filter_other : (fs : List (ℕ × ℕ)) (desc k : ℕ) (d : ℕ × ℕ) → IsStrictlySortedBy nat_cmp (keys_of fs) → k ≡ prefix_len (λ f. nat_lt f.0 desc) fs → k < length fs
    → ((get_or fs k d).0 ≡ desc → ⊥) → filter_in fs desc ≡ None
filter_other fs desc k d s e inside other =
    let u : ((get_or fs k d).0 == desc) ≡ false = isnt_same (get_or fs k d).0 desc other in
    let t : nat_lt k (length fs) ≡ true = is_lower k (length fs) inside in
    found 0 desc fs d (rising_from_sorted fs s) ∙ rw (← e, t, u) refl
