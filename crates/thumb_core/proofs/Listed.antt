-- The registers of a mask from one number on, which is what a loop over them still has to do.
use Rattle.std.proofs.Common.{◌≡◌, ℕ, zero, suc, ◌+◌, ◌-◌, ◌^◌, ◌<◌, ◌==◌, List, [], ◌∷◌, cond, refl, arith}
use Rattle.std.specs.List.{filter}
use Rattle.std.specs.Int.{bit_at}
use Rattle.std.proofs.lemmas.Nat.Bits.{bit_at_above}
use Rattle.thumb_core.specs.Words.{registers_of_list}

-- n numbers from k up
abbrev pub numbers_from : ℕ → ℕ → List ℕ
numbers_from zero k = []
numbers_from (suc n) k = k ∷ numbers_from n (k + 1)

-- the registers of a mask from k on
unfoldable pub listed_from : ℕ → ℕ → List ℕ
listed_from k mask = filter (λ j. bit_at mask j == 1) (numbers_from (16 - k) k)

pub listed_all : (mask : ℕ) → registers_of_list mask ≡ listed_from 0 mask
unfolding registers_of_list listed_from
listed_all mask = refl

pub listed_none : (mask : ℕ) → listed_from 16 mask ≡ []
unfolding listed_from
listed_none mask = refl

pub listed_more : (k mask : ℕ) → k < 16 → listed_from k mask ≡ cond (bit_at mask k == 1) (k ∷ listed_from (k + 1) mask) (listed_from (k + 1) mask)
unfolding listed_from
listed_more k mask h =
    let e : 16 - k ≡ suc (16 - (k + 1)) = omega arith in
    rw e refl

-- a mask without bit 15 has only registers below 15
pub listed_end : (mask : ℕ) → mask < 2 ^ 15 → listed_from 15 mask ≡ []
listed_end mask h =
    let none : bit_at mask 15 ≡ 0 = bit_at_above mask 15 15 h (omega arith) in
    rw (listed_more 15 mask (omega arith), none) (listed_none mask)
