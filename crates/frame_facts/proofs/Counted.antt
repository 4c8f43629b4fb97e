-- A list names as many registers as it has bits that are set.
use Rattle.std.proofs.Common.{◌≡◌, ℕ, zero, suc, ◌+◌, ◌*◌, ◌/◌, ◌%◌, ◌^◌, ◌<◌, ◌==◌, List, ◌∷◌, cond, length, count_ones, refl, sym, ap, subst, ◌∙◌, arith, shr-shr}
use Rattle.std.proofs.Math.Nat.{pow-suc}
use Rattle.std.specs.List.{filter}
use Rattle.std.specs.Int.{bit_at}
use Rattle.std.specs.Int.Count.{ones_step}
use Rattle.std.proofs.lemmas.Nat.{ones-le}
use Rattle.thumb_core.specs.Words.{registers_of_list}
use Rattle.thumb_core.proofs.Listed.{numbers_from}

-- one bit, and those of the rest
one_more : (k b rest : ℕ) (xs : List ℕ) → b < 2 → length xs ≡ rest → length (cond (b == 1) (k ∷ xs) xs) ≡ b + rest
one_more k zero rest xs low e = omega (arith, e)
one_more k (suc zero) rest xs low e = omega (arith, e)
one_more k (suc (suc b)) rest xs low e = absurd (omega (arith, low))

-- of n numbers from k up, those whose bits are set, where no bit stands above them
counted : (n k mask : ℕ) → mask / 2 ^ k < 2 ^ n → length (filter (λ j. bit_at mask j == 1) (numbers_from n k)) ≡ count_ones (mask / 2 ^ k)
counted zero k mask low = let none = ones-le 0 (mask / 2 ^ k) low in omega (arith, none)
counted (suc n) k mask low =
    let half : mask / 2 ^ k / 2 ≡ mask / 2 ^ (k + 1) = shr-shr mask k 1 in
    let rest_low : mask / 2 ^ k / 2 < 2 ^ n = omega (arith, low, pow-suc 2 n) in
    let rest = counted n (k + 1) mask (subst (λ (x : ℕ). x < 2 ^ n) half rest_low) in
    one_more k (mask / 2 ^ k % 2) (count_ones (mask / 2 ^ (k + 1))) (filter (λ j. bit_at mask j == 1) (numbers_from n (k + 1))) (omega arith) rest
    ∙ ap (λ (x : ℕ). mask / 2 ^ k % 2 + count_ones x) (sym half) ∙ sym (ones_step (mask / 2 ^ k))

pub listed_count : (mask : ℕ) → mask < 2 ^ 16 → length (registers_of_list mask) ≡ count_ones mask
unfolding registers_of_list
listed_count mask low =
    let whole : mask / 2 ^ 0 ≡ mask = omega arith in
    counted 16 0 mask (subst (λ (x : ℕ). x < 2 ^ 16) (sym whole) low) ∙ ap count_ones whole
