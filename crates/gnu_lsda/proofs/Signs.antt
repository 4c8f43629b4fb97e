-- The sign of a number in two's complement.
use Rattle.std.proofs.Common.{◌≡◌, ℕ, ◌+◌, ◌-◌, ◌*◌, ◌<◌, ◌≤◌, Bool, true, false, cond, List, [], ◌∷◌, ◌++◌, ap, arith}
use Rattle.std.specs.Prelude.{nat_lt}
use Rattle.std.proofs.lemmas.Bool.Decides.{nat_tests}
use Rattle.eh_word.specs.Words.{base_128}
use Rattle.gnu_lsda.specs.declared.leb128.SignedNumber.{SignedNumber}
use Rattle.gnu_lsda.specs.declared.leb128.SignedNumber.TheVariants.{Plus, Minus}
use Rattle.gnu_lsda.specs.Leb128.{span}
use Rattle.gnu_lsda.specs.Laws.{SignIsBit6}

lower_half : (front : List ℕ) (last : ℕ) → last < 64 → 2 * base_128 (front ++ last ∷ []) + 2 ≤ span (front ++ last ∷ [])
lower_half [] last h = omega arith
lower_half (b ∷ more) last h = let rest = lower_half more last h in omega (arith, rest)

upper_half : (front : List ℕ) (last : ℕ) → last < 128 → 64 ≤ last → span (front ++ last ∷ []) ≤ 2 * base_128 (front ++ last ∷ [])
upper_half [] last low h = omega arith
upper_half (b ∷ more) last low h = let rest = upper_half more last low h in omega (arith, rest)

below : (value whole : ℕ) → 2 * value + 2 ≤ whole → nat_lt (2 * value) whole ≡ true
below value whole h = grind (arith, nat_tests)

above : (value whole : ℕ) → whole ≤ 2 * value → nat_lt (2 * value) whole ≡ false
above value whole h = grind (arith, nat_tests)

by : ℕ → ℕ → Bool → SignedNumber
by value whole small = cond small (Plus value) (Minus (whole - value))

pub law_of_signs : SignIsBit6
unfolding by
law_of_signs front last low = (
  λ h. ap (by (base_128 (front ++ last ∷ [])) (span (front ++ last ∷ []))) (below (base_128 (front ++ last ∷ [])) (span (front ++ last ∷ [])) (lower_half front last h)),
  λ h. ap (by (base_128 (front ++ last ∷ [])) (span (front ++ last ∷ []))) (above (base_128 (front ++ last ∷ [])) (span (front ++ last ∷ [])) (upper_half front last low h)),
)
