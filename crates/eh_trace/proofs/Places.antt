-- The function that is found by its number, and digits without zeros before them.
use Rattle.std.proofs.Common.{◌≡◌, ◌≢◌, ℕ, zero, suc, ◌+◌, ◌<◌, ◌≤◌, Bool, true, false, ◌==◌, cond, List, [], ◌∷◌, length, map, min, nat_lt, ◌-◌, take, drop, get_or, find, Some, None, refl, sym, ap, ◌∙◌, arith, add-one}
use Rattle.std.proofs.lemmas.Bool.Decides.{nat_tests}
use Rattle.std.specs.Prelude.{slice_get}
use Rattle.std.specs.List.{position_from}
use Rattle.std.proofs.Common.{length-drop}
use Rattle.std.proofs.Math.Seq.{take-length}
use Rattle.eh_trace.specs.declared.text.TheConstants.{MAX_TYPE_NAME}
use Rattle.eh_trace.specs.Text.{without_zeros, printable_byte, type_text}

found_from : {A : Type 0} (p : A → Bool) (xs : List A) (k j : ℕ) → position_from p k xs ≡ Some j → (i : ℕ) × (j ≡ k + i) × (find p xs ≡ slice_get xs i)
found_from p [] k j e = cc
found_from {A} p (x ∷ xs) k j e = by (p x) (found_from p xs (k + 1) j) e
  where
    by : (b : Bool) → (position_from p (k + 1) xs ≡ Some j → (i : ℕ) × (j ≡ k + 1 + i) × (find p xs ≡ slice_get xs i)) → cond b (Some k) (position_from p (k + 1) xs) ≡ Some j
        → (i : ℕ) × (j ≡ k + i) × (cond b (Some x) (find p xs) ≡ slice_get (x ∷ xs) i)
    by true next e = let f : k ≡ j = cc in (0, omega arith, refl)
    by false next e = let r = next e in (suc r.0, omega (arith, r.1), r.2)

pub found_at : {A : Type 0} (p : A → Bool) (xs : List A) (i : ℕ) → position_from p 0 xs ≡ Some i → find p xs ≡ slice_get xs i
found_at p xs i e = let r = found_from p xs 0 i e in let f : i ≡ r.0 = omega (arith, r.1) in rw f r.2

none_from : {A : Type 0} (p : A → Bool) (xs : List A) (k : ℕ) → position_from p k xs ≡ None → find p xs ≡ None
none_from p [] k e = refl
none_from p (x ∷ xs) k e = by (p x) (none_from p xs (k + 1)) e
  where
    by : (b : Bool) → (position_from p (k + 1) xs ≡ None → find p xs ≡ None) → cond b (Some k) (position_from p (k + 1) xs) ≡ None → cond b (Some x) (find p xs) ≡ None
    by true next e = cc
    by false next e = next e

pub found_none : {A : Type 0} (p : A → Bool) (xs : List A) → position_from p 0 xs ≡ None → find p xs ≡ None
found_none p xs e = none_from p xs 0 e

-- ---- digits

pub last_digit : (xs : List ℕ) (i : ℕ) → length xs ≤ i + 1 → without_zeros (drop i xs) ≡ drop i xs
unfolding without_zeros
last_digit [] zero h = refl
last_digit [] (suc i) h = refl
last_digit (x ∷ []) zero h = refl
last_digit (x ∷ y ∷ more) zero h = absurd (omega arith)
last_digit (x ∷ xs) (suc i) h = last_digit xs i (omega arith)

pub zero_digit : (xs : List ℕ) (i : ℕ) → i + 1 < length xs → get_or xs i 0 ≡ 48 → without_zeros (drop i xs) ≡ without_zeros (drop (i + 1) xs)
unfolding without_zeros
zero_digit [] i h e = absurd (omega arith)
zero_digit (x ∷ []) zero h e = absurd (omega arith)
zero_digit (x ∷ y ∷ more) zero h e = rw e refl
zero_digit (x ∷ xs) (suc i) h e = rw add-one (zero_digit xs i (omega arith) e ∙ ap (λ (n : ℕ). without_zeros (drop n xs)) (add-one i))

pub other_digit : (xs : List ℕ) (i : ℕ) → i + 1 < length xs → get_or xs i 0 ≢ 48 → without_zeros (drop i xs) ≡ drop i xs
unfolding without_zeros
other_digit [] i h n = absurd (omega arith)
other_digit (x ∷ []) zero h n = absurd (omega arith)
other_digit (x ∷ y ∷ more) zero h n = let f : (x == 48) ≡ false = grind (arith, nat_tests) in rw f refl
other_digit (x ∷ xs) (suc i) h n = other_digit xs i (omega arith) n

-- ---- what is found

found_within : {A : Type 0} (p : A → Bool) (xs : List A) (k j : ℕ) → position_from p k xs ≡ Some j → j < k + length xs
found_within p [] k j e = cc
found_within {A} p (x ∷ xs) k j e = by (p x) (found_within p xs (k + 1) j) e
  where
    by : (b : Bool) → (position_from p (k + 1) xs ≡ Some j → j < k + 1 + length xs) → cond b (Some k) (position_from p (k + 1) xs) ≡ Some j → j < k + suc (length xs)
    by true next e = let f : k ≡ j = cc in omega arith
    by false next e = let r = next e in omega arith

pub found_inside : {A : Type 0} (p : A → Bool) (xs : List A) (i : ℕ) → position_from p 0 xs ≡ Some i → i < length xs
found_inside p xs i e = let h = found_within p xs 0 i e in omega (arith, h)

got : {A : Type 0} (xs : List A) (i : ℕ) (d : A) → i < length xs → slice_get xs i ≡ Some (get_or xs i d)
got [] i d h = absurd (omega arith)
got (x ∷ xs) zero d h = refl
got (x ∷ xs) (suc i) d h = got xs i d (omega arith)

pub found_is : {A : Type 0} (p : A → Bool) (xs ys : List A) (i : ℕ) (r : A) → position_from p 0 xs ≡ Some i → ys ≡ xs → r ≡ get_or ys i r → Some r ≡ find p xs
found_is p xs ys i r e same is =
    let h = found_inside p xs i e in
    let is' : r ≡ get_or xs i r = rw same at is in
    sym (found_at p xs i e ∙ (got xs i r h ∙ ap (λ v. Some v) (sym is')))

-- ---- slices

pub all_taken : (xs : List ℕ) (i : ℕ) → i ≤ length xs → take (length xs - i) (drop i xs) ≡ drop i xs
all_taken xs i h = let e : length xs - i ≡ length (drop i xs) = omega (arith, length-drop i xs) in rw e (take-length (drop i xs))

pub stops : (xs : List ℕ) (i : ℕ) → i ≤ length xs → (i + 1 < length xs → get_or xs i 0 ≢ 48) → take (length xs - i) (drop i xs) ≡ without_zeros (drop i xs)
stops xs i h n = all_taken xs i h ∙ sym (by (nat_lt (i + 1) (length xs)) refl)
  where
    by : (b : Bool) → nat_lt (i + 1) (length xs) ≡ b → without_zeros (drop i xs) ≡ drop i xs
    by true q = let k : i + 1 < length xs = grind (arith, nat_tests) in other_digit xs i k (n k)
    by false q = let k : length xs ≤ i + 1 = grind (arith, nat_tests) in last_digit xs i k

whole : {A : Type 0} (xs : List A) (n : ℕ) → length xs ≤ n → take n xs ≡ xs
whole [] zero h = refl
whole [] (suc n) h = refl
whole (x ∷ xs) zero h = absurd (omega arith)
whole (x ∷ xs) (suc n) h = ap (λ ys. x ∷ ys) (whole xs n (omega arith))

taken : {A : Type 0} (xs : List A) (n : ℕ) → take (min (length xs) n) xs ≡ take n xs
taken xs n = by (nat_lt n (length xs)) refl
  where
    by : (b : Bool) → nat_lt n (length xs) ≡ b → take (min (length xs) n) xs ≡ take n xs
    by true q = let k : n < length xs = grind (arith, nat_tests) in let e : min (length xs) n ≡ n = omega arith in rw e refl
    by false q =
        let k : length xs ≤ n = grind (arith, nat_tests) in
        let e : min (length xs) n ≡ length xs = omega arith in
        rw e (take-length xs ∙ sym (whole xs n k))

pub type_shown : (xs : List ℕ) → length xs ≢ 0 → type_text xs ≡ map printable_byte (take (min (length xs) MAX_TYPE_NAME) xs)
unfolding type_text
type_shown [] n = absurd (n refl)
type_shown (x ∷ xs) n = rw (taken (x ∷ xs) MAX_TYPE_NAME) refl

pub none_beyond : {A : Type 0} (p : A → Bool) (xs ys : List A) (i : ℕ) → position_from p 0 xs ≡ Some i → ys ≡ xs → length ys ≤ i → None ≡ find p xs
none_beyond p xs ys i e same h = let inside = found_inside p xs i e in let h' : length xs ≤ i = rw same at h in absurd (omega arith)
