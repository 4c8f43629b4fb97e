-- What a quotient is, in terms of numbers, not of how it is computed (DDI 0553, UDIV and SDIV).
use Rattle.std.specs.Prelude.{◌≡◌, ◌≢◌, ℕ, ◌+◌, ◌-◌, ◌*◌, ◌^◌, ◌<◌, ℤ, pos, negsuc, ◌+ℤ◌, ◌*ℤ◌, ◌≤ℤ◌, unsigned_abs}
use Rattle.std.specs.Int.{cast_signed, w32}

-- ---- words as they are

-- x = q * y + a remainder below y; for y = 0 the result is 0
pub record IsUnsignedQuotient (x y q : ℕ) : Type 0 where
  pub by_zero : y ≡ 0 → q ≡ 0
  pub divides : y ≢ 0 → (r : ℕ) × (q * y + r ≡ x) × (r < y)

-- ---- words as signed numbers

abbrev pub as_signed : ℕ → ℤ
as_signed x = cast_signed w32 x

-- 0, or on the same side of it
abbrev pub IsBeside : ℤ → ℤ → Type 0
IsBeside (pos n) r = pos 0 ≤ℤ r
IsBeside (negsuc n) r = r ≤ℤ pos 0

-- x = q * y + a remainder that is nearer to 0 than y, and is 0 or has the sign of x. So q is rounded towards 0
pub record IsRest (x y q r : ℤ) : Type 0 where
  pub makes : q *ℤ y +ℤ r ≡ x
  pub small : unsigned_abs r < unsigned_abs y
  pub side : IsBeside x r

-- for y = 0 the result is 0; for -2 ^ 31 by -1 the quotient doesn't fit and the result is -2 ^ 31; else there is such a
-- remainder
pub record IsSignedQuotient (x y q : ℕ) : Type 0 where
  pub by_zero : y ≡ 0 → q ≡ 0
  pub outside : x ≡ 2 ^ 31 → y ≡ 2 ^ 32 - 1 → q ≡ 2 ^ 31
  pub divides : y ≢ 0 → (x ≡ 2 ^ 31 → y ≢ 2 ^ 32 - 1) → (r : ℤ) × IsRest (as_signed x) (as_signed y) (as_signed q) r
