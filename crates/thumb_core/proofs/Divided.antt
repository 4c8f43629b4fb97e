-- The quotient of two words is that of the numbers that they stand for.
use Rattle.std.proofs.Common.{◌≡◌, ◌≢◌, ℕ, zero, suc, ◌-◌, ◌*◌, ◌/◌, ◌%◌, ◌^◌, ◌<◌, ◌≤◌, Bool, true, false, cond, refl, arith, inl, inr, ℤ, pos, negsuc, neg_ℤ, unsigned_abs, int_div, int_rem}
use Rattle.std.proofs.Math.Nat.{div-le_self, div-add-mod', mod-lt, div-lt_iff_lt-mul}
use Rattle.std.proofs.lemmas.Bool.{cases_lt, le-leb}
use Rattle.std.proofs.lemmas.Bool.Decides.{nat_tests}
use Rattle.std.proofs.lemmas.Int.{ints, quot-rem, rem_below}
use Rattle.std.proofs.Math.Facts.{to_z-neg}
use Rattle.std.specs.Int.{w32}
use Rattle.thumb_core.specs.Data.{is_minus, same_bool, unsigned_quotient, signed_quotient}
use Rattle.thumb_core.specs.Division.{as_signed, IsBeside, IsRest, IsUnsignedQuotient, IsSignedQuotient}

-- ---- words as they are

plain : (x y : ℕ) → y ≢ 0 → unsigned_quotient x y ≡ x / y
plain x y some = grind (arith, nat_tests)

by_zero : (x y : ℕ) → y ≡ 0 → unsigned_quotient x y ≡ 0
by_zero x y none = grind (arith, nat_tests)

pub unsigned_is : (x y : ℕ) → IsUnsignedQuotient x y (unsigned_quotient x y)
unsigned_is x y = record {
  by_zero = by_zero x y;
  divides = λ some. (x % y, rw (plain x y some) (div-add-mod' x y), mod-lt x (omega (arith, some)));
}

-- ---- words as signed numbers

is_plus : (x : ℕ) → x < 2 ^ 31 → is_minus x ≡ false
is_plus x low = grind (arith, nat_tests)

minus : (x : ℕ) → 2 ^ 31 ≤ x → is_minus x ≡ true
minus x high = le-leb (2 ^ 31) x high

signed_plus : (x : ℕ) → x < 2 ^ 31 → as_signed x ≡ pos x
signed_plus x low = omega (arith, ints)

signed_minus : (x a : ℕ) → a < 2 ^ 31 → x ≡ 2 ^ 32 - suc a → as_signed x ≡ negsuc a
signed_minus x a low e = rw e (to_z-neg w32 a low)

-- the word of a number that is not above 0
negated : (q : ℕ) → q ≤ 2 ^ 31 → as_signed ((2 ^ 32 - q) % 2 ^ 32) ≡ neg_ℤ (pos q)
negated zero low = refl
negated (suc n) low =
    let e : (2 ^ 32 - suc n) % 2 ^ 32 ≡ 2 ^ 32 - suc n = omega arith in
    rw e (to_z-neg w32 n low)

-- by the signs of both
from_signs : (x y : ℕ) (a b : Bool) → is_minus x ≡ a → is_minus y ≡ b
    → signed_quotient x y ≡ (let q = unsigned_quotient (cond a (2 ^ 32 - x) x) (cond b (2 ^ 32 - y) y) in cond (same_bool a b) q ((2 ^ 32 - q) % 2 ^ 32))
from_signs x y a b e f = rw (← e, ← f) refl

below : (a b : ℕ) → a < 2 ^ 31 → (a ≡ 2 ^ 31 - 1 → b ≢ 0) → suc a / suc b < 2 ^ 31
below a b low inside = (div-lt_iff_lt-mul {k = suc b} (omega arith)).1 (go b inside)
  where
    go : (b : ℕ) → (a ≡ 2 ^ 31 - 1 → b ≢ 0) → suc a < 2 ^ 31 * suc b
    go zero inside = elim (cases_lt (suc a) (2 ^ 31)) [ inl h ↦ omega (arith, h) | inr h ↦ absurd (inside (omega (arith, h, low)) refl) ]
    go (suc b) inside = omega (arith, low)

-- where the quotient can be a signed word it is that of the numbers
pub signed_divides : (x y : ℕ) → x < 2 ^ 32 → y < 2 ^ 32 → y ≢ 0 → (x ≡ 2 ^ 31 → y ≢ 2 ^ 32 - 1) → as_signed (signed_quotient x y) ≡ int_div (as_signed x) (as_signed y)
signed_divides x y xw yw some inside = elim (cases_lt x (2 ^ 31)) [
  | inl xl ↦ elim (cases_lt y (2 ^ 31)) [
    | inl yl ↦
        let e = from_signs x y false false (is_plus x xl) (is_plus y yl) in
        rw (e, plain x y some, signed_plus x xl, signed_plus y yl) (signed_plus (x / y) (omega (arith, div-le_self x y)))
    | inr yh ↦
        let b = 2 ^ 31 - 1 - (y - 2 ^ 31) in
        let ey : 2 ^ 32 - y ≡ suc b = omega arith in
        let e = from_signs x y false true (is_plus x xl) (minus y yh) in
        rw (e, ey, plain x (suc b) (omega arith), signed_plus x xl, signed_minus y b (omega arith) (omega arith)) (negated (x / suc b) (omega (arith, div-le_self x (suc b))))
  ]
  | inr xh ↦
      let a = 2 ^ 31 - 1 - (x - 2 ^ 31) in
      let ex : 2 ^ 32 - x ≡ suc a = omega arith in
      elim (cases_lt y (2 ^ 31)) [
        | inl yl ↦
            let e = from_signs x y true false (minus x xh) (is_plus y yl) in
            rw (e, ex, plain (suc a) y some, signed_plus y yl, signed_minus x a (omega arith) (omega arith)) (negated (suc a / y) (omega (arith, div-le_self (suc a) y)))
        | inr yh ↦
            let b = 2 ^ 31 - 1 - (y - 2 ^ 31) in
            let ey : 2 ^ 32 - y ≡ suc b = omega arith in
            let e = from_signs x y true true (minus x xh) (minus y yh) in
            rw (e, ex, ey, plain (suc a) (suc b) (omega arith), signed_minus x a (omega arith) (omega arith), signed_minus y b (omega arith) (omega arith))
            (signed_plus (suc a / suc b) (below a b (omega arith) (λ most none. inside (omega arith) (omega arith))))
      ]
]

beside : (x y : ℤ) → IsBeside x (int_rem x y)
beside (pos a) y = omega (arith, ints)
beside (negsuc a) y = omega (arith, ints)

some_abs : (y : ℕ) → y < 2 ^ 32 → y ≢ 0 → 0 < unsigned_abs (as_signed y)
some_abs y low some = elim (cases_lt y (2 ^ 31)) [
  | inl l ↦ rw (signed_plus y l) (omega (arith, some))
  | inr h ↦ rw (signed_minus y (2 ^ 31 - 1 - (y - 2 ^ 31)) (omega arith) (omega arith)) (omega arith)
]

signed_zero : (x y : ℕ) → y ≡ 0 → signed_quotient x y ≡ 0
signed_zero x y none = elim (cases_lt x (2 ^ 31)) [
  | inl low ↦ rw (none, from_signs x 0 false false (is_plus x low) refl) refl
  | inr high ↦ rw (none, from_signs x 0 true false (minus x high) refl) refl
]

pub signed_is : (x y : ℕ) → x < 2 ^ 32 → y < 2 ^ 32 → IsSignedQuotient x y (signed_quotient x y)
signed_is x y xw yw = record {
  by_zero = signed_zero x y;
  outside = λ e f. rw (e, f) refl;
  divides = λ some inside. (
    int_rem (as_signed x) (as_signed y),
    record {
      makes = rw (signed_divides x y xw yw some inside) (quot-rem (as_signed x) (as_signed y));
      small = rem_below (as_signed x) (as_signed y) (some_abs y yw some);
      side = beside (as_signed x) (as_signed y);
    },
  );
}
