-- One row more.
use Rattle.std.proofs.Common.{◌≡◌, ℕ, zero, suc, ◌+◌, List, [], ◌∷◌, ◌++◌, fold, refl, sym, ap, ◌∙◌, arith}
use Rattle.std.specs.List.{range_with_len}

-- n + 1 numbers are n of them and the last
range_more : (a n : ℕ) → range_with_len a (n + 1) ≡ range_with_len a n ++ (a + n) ∷ []
range_more a zero = let e : a ≡ a + 0 = omega arith in ap (λ (x : ℕ). x ∷ []) e
range_more a (suc n) =
    let e : suc n + 1 ≡ suc (n + 1) = omega arith in
    let f : a + 1 + n ≡ a + suc n = omega arith in
    ap (range_with_len a) e ∙ ap (λ (l : List ℕ). a ∷ l) (range_more (a + 1) n ∙ ap (λ (x : ℕ). range_with_len (a + 1) n ++ x ∷ []) f)

fold_both : {A : Type 0} (f : A → ℕ → A) (x : A) (xs : List ℕ) (y : ℕ) → fold f x (xs ++ y ∷ []) ≡ f (fold f x xs) y
fold_both f x [] y = refl
fold_both f x (z ∷ xs) y = fold_both f (f x z) xs y

pub fold_row : {A : Type 0} (f : A → ℕ → A) (x : A) (n : ℕ) → fold f x (range_with_len 0 (n + 1)) ≡ f (fold f x (range_with_len 0 n)) n
fold_row f x n =
    let e : 0 + n ≡ n = omega arith in
    ap (fold f x) (range_more 0 n) ∙ fold_both f x (range_with_len 0 n) (0 + n) ∙ ap (f (fold f x (range_with_len 0 n))) e

pub ruleset rowing = (fold_row)
