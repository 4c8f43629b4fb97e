-- How large a number of a few digits in base 128 is.
use Rattle.std.proofs.Common.{ℕ, ◌^◌, ◌<◌, ◌≤◌, List, [], ◌∷◌, length, arith}
use Rattle.eh_word.specs.Words.{base_128}
use Rattle.gnu_lsda.specs.Leb128.{span}

pub span_fits : (xs : List ℕ) → length xs ≤ 5 → span xs ≤ 2 ^ 35
span_fits [] h = omega arith
span_fits (a ∷ []) h = omega arith
span_fits (a ∷ b ∷ []) h = omega arith
span_fits (a ∷ b ∷ c ∷ []) h = omega arith
span_fits (a ∷ b ∷ c ∷ d ∷ []) h = omega arith
span_fits (a ∷ b ∷ c ∷ d ∷ e ∷ []) h = omega arith
span_fits (a ∷ b ∷ c ∷ d ∷ e ∷ f ∷ xs) h = absurd (omega arith)

pub digits_below : (xs : List ℕ) → base_128 xs < span xs
digits_below [] = omega arith
digits_below (b ∷ more) = let h = digits_below more in omega (arith, h)

pub digits_fit : (xs : List ℕ) → length xs ≤ 5 → base_128 xs < 2 ^ 35
digits_fit xs h = omega (arith, digits_below xs, span_fits xs h)
