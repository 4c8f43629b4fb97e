-- The lowest row that is refused.
use Rattle.std.proofs.Common.{◌≡◌, ℕ, suc, ◌+◌, ◌-◌, ◌<◌, ◌≤◌, nat_lt, Bool, true, false, cond, List, [], ◌∷◌, fold, Option, Some, None, refl, ap, ◌∙◌, arith}
use Rattle.std.proofs.lemmas.Bool.Decides.{nat_tests}
use Rattle.std.specs.List.{range_with_len}
use Rattle.elf_image.specs.Image.{Image}
use Rattle.eh_index.specs.Rows.{entry_count}
use Rattle.gnu_lsda.specs.Entries.{generic_of, personality_in}
use Rattle.gnu_index.specs.declared.refusal.GnuFault.{GnuFault}
use Rattle.gnu_index.specs.declared.refusal.GnuFault.TheVariants.{TooLarge}
use Rattle.gnu_index.specs.declared.refusal.TheConstants.{SITES_LIMIT}
use Rattle.gnu_index.specs.Refusal.{sites_size, sites_total, form_refusal, row_refusal, or_later_fault, first_refusal, rows_refusal}

is_past : (a b : ℕ) → a < b → nat_lt a b ≡ true
is_past a b h = grind (arith, nat_tests)

isnt_past : (a b : ℕ) → b ≤ a → nat_lt a b ≡ false
isnt_past a b h = grind (arith, nat_tests)

range_step : (k n : ℕ) → k < n → range_with_len k (n - k) ≡ k ∷ range_with_len (k + 1) (n - (k + 1))
range_step k n h = let e : n - k ≡ suc (n - (k + 1)) = omega arith in ap (range_with_len k) e

row_step : (image : Image) (before k n : ℕ) → k < n
    → first_refusal image before (range_with_len k (n - k))
    ≡ or_later_fault (row_refusal image before k) (first_refusal image (before + sites_size image k) (range_with_len (k + 1) (n - (k + 1))))
row_step image before k n h = ap (first_refusal image before) (range_step k n h)

-- too many bytes with row k
pub stops_large : (image : Image) (before k n : ℕ) → k < n → SITES_LIMIT < before + sites_size image k
    → first_refusal image before (range_with_len k (n - k)) ≡ Some TooLarge
stops_large image before k n h large =
    let t : nat_lt SITES_LIMIT (before + sites_size image k) ≡ true = is_past SITES_LIMIT (before + sites_size image k) large in
    row_step image before k n h ∙ rw t refl

row_is : (image : Image) (before k : ℕ) → before + sites_size image k ≤ SITES_LIMIT → row_refusal image before k ≡ form_refusal image (personality_in image) (generic_of image k)
row_is image before k few =
    let t : nat_lt SITES_LIMIT (before + sites_size image k) ≡ false = isnt_past SITES_LIMIT (before + sites_size image k) few in
    rw t refl

-- row k is refused
pub stops_entry : (image : Image) (before k n : ℕ) (fault : GnuFault) → k < n → before + sites_size image k ≤ SITES_LIMIT
    → form_refusal image (personality_in image) (generic_of image k) ≡ Some fault → first_refusal image before (range_with_len k (n - k)) ≡ Some fault
stops_entry image before k n fault h few e =
    row_step image before k n h
    ∙ ap (λ (o : Option GnuFault). or_later_fault o (first_refusal image (before + sites_size image k) (range_with_len (k + 1) (n - (k + 1))))) (row_is image before k few ∙ e)

-- it isn't
pub goes_on : (image : Image) (before k n : ℕ) → k < n → before + sites_size image k ≤ SITES_LIMIT
    → form_refusal image (personality_in image) (generic_of image k) ≡ None
    → first_refusal image before (range_with_len k (n - k)) ≡ first_refusal image (before + sites_size image k) (range_with_len (k + 1) (n - (k + 1)))
goes_on image before k n h few e =
    row_step image before k n h
    ∙ ap (λ (o : Option GnuFault). or_later_fault o (first_refusal image (before + sites_size image k) (range_with_len (k + 1) (n - (k + 1))))) (row_is image before k few ∙ e)

-- after the last row
pub ends : (image : Image) (before k n : ℕ) → n ≤ k → first_refusal image before (range_with_len k (n - k)) ≡ None
ends image before k n h = let e : n - k ≡ 0 = omega arith in ap (λ (m : ℕ). first_refusal image before (range_with_len k m)) e

-- before the first one
pub begins : (image : Image) (n m : ℕ) → n ≡ m → first_refusal image 0 (range_with_len 0 (n - 0)) ≡ first_refusal image 0 (range_with_len 0 m)
begins image n m e = let f : n - 0 ≡ m = omega arith in ap (λ (j : ℕ). first_refusal image 0 (range_with_len 0 j)) f

pub ruleset refusing = (begins, stops_large, stops_entry, goes_on, ends)

-- ---- where nothing is refused, the bytes are few

none_later : (o later : Option GnuFault) → or_later_fault o later ≡ None → later ≡ None
none_later None later h = h
none_later (Some fault) later h = absurd cc

not_both : (o : Option GnuFault) (fault : GnuFault) → o ≡ Some fault → o ≡ None → ⊥
not_both o fault e f = cc

total_along : (image : Image) (before : ℕ) (ks : List ℕ) → before ≤ SITES_LIMIT → first_refusal image before ks ≡ None → fold (λ n k. n + sites_size image k) before ks ≤ SITES_LIMIT
total_along image before [] few h = few
total_along image before (k ∷ ks) few h =
    by_test (nat_lt SITES_LIMIT (before + sites_size image k)) refl
    (λ low. total_along image (before + sites_size image k) ks low (none_later (row_refusal image before k) (first_refusal image (before + sites_size image k) ks) h))
  where
    by_test : (b : Bool) → nat_lt SITES_LIMIT (before + sites_size image k) ≡ b
        → (before + sites_size image k ≤ SITES_LIMIT → fold (λ n k. n + sites_size image k) (before + sites_size image k) ks ≤ SITES_LIMIT)
        → fold (λ n k. n + sites_size image k) (before + sites_size image k) ks ≤ SITES_LIMIT
    by_test true t rest =
        absurd (not_both (or_later_fault (row_refusal image before k) (first_refusal image (before + sites_size image k) ks)) TooLarge
        (ap (λ (c : Bool). or_later_fault (cond c (Some TooLarge) (form_refusal image (personality_in image) (generic_of image k))) (first_refusal image (before + sites_size image k) ks)) t) h)
    by_test false t rest = let low : before + sites_size image k ≤ SITES_LIMIT = grind (arith, nat_tests) in rest low

pub few_sites : (image : Image) → rows_refusal image ≡ None → sites_total image ≤ SITES_LIMIT
unfolding rows_refusal sites_total
few_sites image h = total_along image 0 (range_with_len 0 (entry_count image)) (omega arith) h
