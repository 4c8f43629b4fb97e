-- Counts as words and as numbers.
use Rattle.std.proofs.Common.{◌≡◌, ◌≢◌, ℕ, ◌+◌, ◌-◌, ◌+ℤ◌, ◌-ℤ◌, cond, nat_lt, ◌^◌, ◌<◌, ◌≤◌, Bool, true, false, ◌==◌, ℤ, pos, negsuc, neg_ℤ, ◌<ℤ◌, ◌≤ℤ◌, refl, arith, int_lt}
use Rattle.std.specs.Int.{cast_signed}
use Rattle.std.specs.Ordering.{int_eq}
use mir.Syntax.{w32}
use Rattle.std.proofs.lemmas.Int.{ints}
use Rattle.std.proofs.lemmas.Bool.Decides.{nat_tests, Decides-int_eq}
use Rattle.eh_cxa.specs.Catch.{count_after_catch, negated_count, Fall, stays, falls, ends, leaves, fall}
use Rattle.eh_cxa.specs.ListCalls.{one_more_handler, fall_of}

abbrev pub signed : ℕ → ℤ
signed c = cast_signed w32 c

pub zero_count : (c : ℕ) → c < 2 ^ 32 → int_eq (signed c) (pos 0) ≡ (c == 0)
zero_count c h = grind (arith, ints, nat_tests, Decides-int_eq)

pub counted_is : (c : ℕ) → c < 2 ^ 32 → signed (count_after_catch c) ≡ one_more_handler (signed c)
counted_is c h = grind (arith, ints, nat_tests)

pub negated_is : (c : ℕ) → c < 2 ^ 32 → c ≢ 2 ^ 31 → signed (negated_count c) ≡ neg_ℤ (signed c)
negated_is c h n = grind (arith, ints, nat_tests)

abbrev pub as_signed : Fall ℕ → Fall ℤ
as_signed stays = stays
as_signed (falls c) = falls (signed c)
as_signed ends = ends
as_signed leaves = leaves

one_count : (c : ℕ) → c < 2 ^ 32 → int_eq (signed c) (pos 1) ≡ (c == 1)
one_count c h = grind (arith, ints, nat_tests, Decides-int_eq)

last_count : (c : ℕ) → c < 2 ^ 32 → int_eq (signed c) (negsuc 0) ≡ (c == 2 ^ 32 - 1)
last_count c h = grind (arith, ints, nat_tests, Decides-int_eq)

above : (c : ℕ) → c < 2 ^ 32 → c ≢ 0 → int_lt (pos 0) (signed c) ≡ nat_lt c (2 ^ 31)
above c h n = grind (arith, ints, nat_tests)

less : (c : ℕ) → c < 2 ^ 31 → c ≢ 0 → signed c -ℤ pos 1 ≡ signed (c - 1)
less c h n = grind (arith, ints, nat_tests)

more : (c : ℕ) → c < 2 ^ 32 - 1 → 2 ^ 31 ≤ c → signed c +ℤ pos 1 ≡ signed (c + 1)
more c h n = grind (arith, ints, nat_tests)

pub fall_is : (c : ℕ) → c < 2 ^ 32 → fall_of (signed c) ≡ as_signed (fall c)
fall_is c h = rw (zero_count c h, one_count c h, last_count c h) (by_cases (c == 0) refl (c == 1) (c == 2 ^ 32 - 1) refl (nat_lt c (2 ^ 31)) refl)
  where
    by_cases : (o : Bool) → (c == 0) ≡ o → (p : Bool) → (q : Bool) → (c == 2 ^ 32 - 1) ≡ q → (r : Bool) → nat_lt c (2 ^ 31) ≡ r
        → cond o stays (cond p ends (cond q leaves (cond (int_lt (pos 0) (signed c)) (falls (signed c -ℤ pos 1)) (falls (signed c +ℤ pos 1)))))
        ≡ as_signed (cond o stays (cond p ends (cond q leaves (cond r (falls (c - 1)) (falls (c + 1))))))
    by_cases true e p q f r g = refl
    by_cases false e true q f r g = refl
    by_cases false e false true f r g = refl
    by_cases false e false false f true g =
        let n : c ≢ 0 = grind (arith, nat_tests) in
        let l : c < 2 ^ 31 = grind (arith, nat_tests) in
        rw (less c l n, above c h n, g)
    by_cases false e false false f false g =
        let n : c ≢ 0 = grind (arith, nat_tests) in
        let l : 2 ^ 31 ≤ c = grind (arith, nat_tests) in
        let k : c < 2 ^ 32 - 1 = grind (arith, nat_tests) in
        rw (more c k l, above c h n, g)

-- ---- signs

pub caught_above : (z : ℤ) → pos 0 <ℤ one_more_handler z
caught_above z = grind (arith, ints)

pub signed_zero : (c : ℕ) → c < 2 ^ 32 → signed c ≡ pos 0 → c ≡ 0
signed_zero c h e = grind (arith, ints)

pub record Falls (c d : ℕ) : Type 0 where
  pub small : d < 2 ^ 32
  pub counts : signed d ≡ pos 0 → ⊥
  pub above : pos 0 <ℤ signed c → pos 0 <ℤ signed d
  pub below : signed c ≤ℤ pos 0 → signed d ≤ℤ pos 0
  pub counted : signed c ≡ pos 0 → ⊥

pub falls_by : (c d : ℕ) → c < 2 ^ 32 → fall c ≡ falls d → Falls c d
falls_by c d h e = go (c == 0) refl (c == 1) refl (c == 2 ^ 32 - 1) refl (nat_lt c (2 ^ 31)) refl e
  where
    go : (o : Bool) → (c == 0) ≡ o → (p : Bool) → (c == 1) ≡ p → (q : Bool) → (c == 2 ^ 32 - 1) ≡ q → (r : Bool) → nat_lt c (2 ^ 31) ≡ r
        → cond o stays (cond p ends (cond q leaves (cond r (falls (c - 1)) (falls (c + 1))))) ≡ falls d → Falls c d
    go true a p b q f r g e = cc
    go false a true b q f r g e = cc
    go false a false b true f r g e = cc
    go false a false b false f true g e =
        let i : c - 1 ≡ d = cc in
        let j : c < 2 ^ 31 = grind (arith, nat_tests) in
        let k : c ≢ 0 = grind (arith, nat_tests) in
        let m : c ≢ 1 = grind (arith, nat_tests) in
        record { small = omega arith; counts = λ x. grind (arith, ints); above = λ x. grind (arith, ints); below = λ x. grind (arith, ints); counted = λ x. grind (arith, ints) }
    go false a false b false f false g e =
        let i : c + 1 ≡ d = cc in
        let j : 2 ^ 31 ≤ c = grind (arith, nat_tests) in
        let k : c ≢ 2 ^ 32 - 1 = grind (arith, nat_tests) in
        record { small = omega arith; counts = λ x. grind (arith, ints); above = λ x. grind (arith, ints); below = λ x. grind (arith, ints); counted = λ x. grind (arith, ints) }

pub ends_by : (c : ℕ) → fall c ≡ ends → c ≡ 1
ends_by c e = go (c == 0) (c == 1) refl (c == 2 ^ 32 - 1) (nat_lt c (2 ^ 31)) e
  where
    go : (o : Bool) → (p : Bool) → (c == 1) ≡ p → (q r : Bool)
        → cond o stays (cond p ends (cond q leaves (cond r (falls (c - 1)) (falls (c + 1))))) ≡ ends → c ≡ 1
    go true p b q r e = cc
    go false true b q r e = grind (arith, nat_tests)
    go false false b true r e = cc
    go false false b false true e = cc
    go false false b false false e = cc

pub leaves_by : (c : ℕ) → fall c ≡ leaves → c ≡ 2 ^ 32 - 1
leaves_by c e = go (c == 0) (c == 1) (c == 2 ^ 32 - 1) refl (nat_lt c (2 ^ 31)) e
  where
    go : (o p q : Bool) → (c == 2 ^ 32 - 1) ≡ q → (r : Bool)
        → cond o stays (cond p ends (cond q leaves (cond r (falls (c - 1)) (falls (c + 1))))) ≡ leaves → c ≡ 2 ^ 32 - 1
    go true p q b r e = cc
    go false true q b r e = cc
    go false false true b r e = grind (arith, nat_tests)
    go false false false b true e = cc
    go false false false b false e = cc

pub negated_small : (c : ℕ) → negated_count c < 2 ^ 32
negated_small c = omega arith

pub positive : (c : ℕ) → c < 2 ^ 32 → pos 0 <ℤ signed c → c < 2 ^ 31
positive c h a = grind (arith, ints)

pub minus_counts : (z : ℤ) → pos 0 <ℤ z → neg_ℤ z ≡ pos 0 → ⊥
minus_counts z a e = omega (arith, ints)

pub minus_below : (z : ℤ) → pos 0 <ℤ z → neg_ℤ z ≤ℤ pos 0
minus_below z a = omega (arith, ints)
