-- How large a number of a few digits in base 128 is.
use Rattle.std.proofs.Common.{◌≡◌, ℕ, ◌+◌, ◌^◌, ◌<◌, ◌≤◌, List, [], ◌∷◌, length, take, slice_index, length-take, inl, inr, arith}
use Rattle.std.proofs.lemmas.Bool.{cases_lt}
use Rattle.eh_word.specs.Words.{base_128}

four_digits : (xs : List ℕ) → length xs ≤ 4 → base_128 xs < 2 ^ 28
four_digits [] h = omega arith
four_digits (a ∷ []) h = omega arith
four_digits (a ∷ b ∷ []) h = omega arith
four_digits (a ∷ b ∷ c ∷ []) h = omega arith
four_digits (a ∷ b ∷ c ∷ d ∷ []) h = omega arith
four_digits (a ∷ b ∷ c ∷ d ∷ e ∷ xs) h = absurd (omega arith)

five_digits : (xs : List ℕ) → slice_index xs 4 ≤ 15 → base_128 (take 5 xs) < 2 ^ 32
five_digits [] h = omega arith
five_digits (a ∷ []) h = omega arith
five_digits (a ∷ b ∷ []) h = omega arith
five_digits (a ∷ b ∷ c ∷ []) h = omega arith
five_digits (a ∷ b ∷ c ∷ d ∷ []) h = omega arith
five_digits (a ∷ b ∷ c ∷ d ∷ e ∷ xs) h = omega arith

-- up to five digits of which a fifth is at most 15
pub digits_fit : (xs : List ℕ) (n : ℕ) → n ≤ 4 → (n ≡ 4 → slice_index xs 4 ≤ 15) → base_128 (take (n + 1) xs) < 2 ^ 32
digits_fit xs n h k = elim (cases_lt n 4) [
  | inl below ↦ omega (arith, four_digits (take (n + 1) xs) (rw length-take (omega arith)))
  | inr above ↦ let last : n ≡ 4 = omega arith in rw last (five_digits xs (k last))
]
