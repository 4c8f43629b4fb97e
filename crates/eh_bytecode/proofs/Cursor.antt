-- What is left of a list when some of its elements were taken.
use Rattle.std.proofs.Common.{◌≡◌, ℕ, zero, suc, ◌+◌, ◌≤◌, List, [], ◌∷◌, ◌++◌, length, take, drop, Option, Some, None, refl, arith, ◌∙◌, ap, sym, append-nil}
use Rattle.std.specs.Iterator.{YieldsFirst}
use Rattle.std.proofs.lemmas.Grind.{common_steps}
use Rattle.std.proofs.lemmas.List.{take_all, take_at}

drop_suc : (k : ℕ) (xs : List ℕ) → drop (suc k) xs ≡ drop 1 (drop k xs)
drop_suc zero xs = refl
drop_suc (suc k) [] = refl
drop_suc (suc k) (x ∷ xs) = drop_suc k xs

pub drop_more : (k : ℕ) (xs : List ℕ) → drop (k + 1) xs ≡ drop 1 (drop k xs)
drop_more k xs = ap (λ n. drop n xs) (let e : k + 1 ≡ suc k = omega arith in e) ∙ drop_suc k xs

-- one element more is passed over
pub passed_more : (k : ℕ) (xs old new : List ℕ) (r : Option ℕ) → old ≡ drop k xs → YieldsFirst (λ (s : List ℕ). s) old r new → new ≡ drop (k + 1) xs
passed_more k xs old new None is gives = gives.1 ∙ sym (drop_more k xs ∙ ap (drop 1) (sym is ∙ gives.0))
passed_more k xs old new (Some x) is gives = sym (drop_more k xs ∙ ap (drop 1) (sym is ∙ gives))

-- the first five elements are those that were read
pub five_read : (bytes left all : List ℕ) → take 5 bytes ++ left ≡ all → length bytes ≡ 5 → take 5 bytes ≡ take 5 all
five_read bytes left all e size =
    let five : length (take 5 bytes) ≡ 5 = grind (arith, common_steps) in
    sym (ap (take 5) (sym e) ∙ take_at (take 5 bytes) left 5 five)

pub all_read : (n : ℕ) (bytes left all : List ℕ) → take n bytes ++ left ≡ all → left ≡ [] → n ≤ 5 → take n bytes ≡ take 5 all
all_read n bytes left all e none few =
    let short : length (take n bytes) ≤ 5 = grind (arith, common_steps) in
    let same : take n bytes ≡ all = sym (append-nil (take n bytes)) ∙ ap (λ l. take n bytes ++ l) (sym none) ∙ e in
    sym (ap (take 5) (sym same) ∙ take_all 5 (take n bytes) short)

pub five_at : (n : ℕ) (bytes left all : List ℕ) → n ≡ 5 → take n bytes ++ left ≡ all → length bytes ≡ 5 → take n bytes ≡ take 5 all
five_at n bytes left all e = rw e (five_read bytes left all)
