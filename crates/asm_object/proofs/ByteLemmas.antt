-- The low two bytes of a number.
use Rattle.std.proofs.Common.{◌≡◌, ℕ, ◌/◌, ◌%◌, ◌∷◌, [], arith}
use Rattle.byteorder.specs.Endian.{little_bytes}

pub low_half : (n : ℕ) → little_bytes 2 (n % 0x10000) ≡ little_bytes 2 n
low_half n =
    let low : n % 0x10000 % 256 ≡ n % 256 = omega arith in
    let high : n % 0x10000 / 256 % 256 ≡ n / 256 % 256 = omega arith in
    (λ j. low j ∷ high j ∷ [])
