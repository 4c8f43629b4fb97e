-- Decimal numbers: the digits of a number are read as that number.
use Rattle.std.proofs.Common.{◌≡◌, ℕ, suc, ◌+◌, ◌-◌, ◌*◌, ◌/◌, ◌%◌, ◌^◌, ◌<◌, ◌≤◌, ◌==◌, ◌&&◌, not, Bool, true, false, if◌then◌else◌, List, [], ◌∷◌, ◌++◌, length, take, drop, Some, None, option_and_then, ℤ, pos, negsuc, ◌-ℤ◌, decimal, refl, ap, ◌∙◌, arith, length-append}
use Rattle.std.proofs.lemmas.Bool.{le-leb}
use Rattle.std.proofs.lemmas.Bool.Decides.{nat_tests}
use Rattle.std.proofs.lemmas.List.{take_at}
use Rattle.std.proofs.lemmas.List.Folds.{list_all-append}
use Rattle.std.proofs.lemmas.Fmt.{decimal_by_steps, length-decimal-le}
use Rattle.std.proofs.lemmas.Int.{ints}
use Rattle.std.specs.Prelude.{nat_lt, nat_le}
use Rattle.std.specs.Fmt.{signed_decimal}
use Rattle.std.specs.List.{prefix_len, list_all}
use Rattle.asm_read.specs.declared.token.TokenKind.TheVariants.{Number, Wide, End, Bad}
use Rattle.asm_read.specs.Tokens.{is_blank, is_digit, is_name_byte, decimal_digit, hex_digit, number_from, is_hexadecimal, number_of, kind_of_number, front, front_of, quoted_front, closing, character_front, run_front, after_minus}
use Rattle.asm_read.specs.Plans.{not_plain}
use Rattle.asm_line_laws.specs.Written.{InRange}
use Rattle.asm_line_laws.proofs.Texts.{and_left, and_right, both, differ, Stops, name_run, plain}

-- digits that are read as a number
record AreDigits (n : ℕ) (ds : List ℕ) : Type 0 where
  digits : list_all is_digit ds ≡ true
  some : 0 < length ds
  value : number_from decimal_digit 10 0 ds ≡ Some n

digit_of : (d : ℕ) → d < 10 → is_digit (48 + d) ≡ true
digit_of d h = both (nat_le 48 (48 + d)) (nat_le (48 + d) 57) (le-leb 48 (48 + d) (omega arith)) (le-leb (48 + d) 57 (omega arith))

digit_value : (d : ℕ) → d < 10 → decimal_digit (48 + d) ≡ Some d
digit_value d h =
    let e : 48 + d - 48 ≡ d = omega arith in
    ap (λ b. if b then Some (48 + d - 48) else None) (digit_of d h) ∙ ap (λ x. Some x) e

last_digit : (n d : ℕ) → d < 10 → number_from decimal_digit 10 n ((48 + d) ∷ []) ≡ Some (n * 10 + d)
last_digit n d h = ap (λ o. option_and_then (λ e. Some (n * 10 + e)) o) (digit_value d h)

number-append : (a : ℕ) (xs ys : List ℕ) → number_from decimal_digit 10 a (xs ++ ys) ≡ option_and_then (λ m. number_from decimal_digit 10 m ys) (number_from decimal_digit 10 a xs)
number-append a [] ys = refl
number-append a (x ∷ xs) ys =
    elim (decimal_digit x) as (λ o. option_and_then (λ d. number_from decimal_digit 10 (a * 10 + d) (xs ++ ys)) o ≡ option_and_then (λ m. number_from decimal_digit 10 m ys) (option_and_then (λ d. number_from decimal_digit 10 (a * 10 + d) xs) o)) [
      | None ↦ refl
      | Some d ↦ number-append (a * 10 + d) xs ys
    ]

one_digit : (n : ℕ) → n < 10 → AreDigits n ((48 + n) ∷ [])
one_digit n h =
    let e : 0 * 10 + n ≡ n = omega arith in
    record { digits = both (is_digit (48 + n)) true (digit_of n h) refl; some = omega arith; value = last_digit 0 n h ∙ ap (λ x. Some x) e }

more_digits : (n : ℕ) (ds : List ℕ) → 10 ≤ n → AreDigits (n / 10) ds → AreDigits n (ds ++ ((48 + n % 10) ∷ []))
more_digits n ds h a =
    let few : n % 10 < 10 = omega arith in
    let e : n / 10 * 10 + n % 10 ≡ n = omega arith in
    let size = a.some in
    record {
      digits = list_all-append is_digit ds ((48 + n % 10) ∷ []) ∙ both (list_all is_digit ds) (is_digit (48 + n % 10) && true) a.digits (both (is_digit (48 + n % 10)) true (digit_of (n % 10) few) refl);
      some = omega (arith, length-append ds ((48 + n % 10) ∷ []));
      value = number-append 0 ds ((48 + n % 10) ∷ []) ∙ ap (option_and_then (λ m. number_from decimal_digit 10 m ((48 + n % 10) ∷ []))) a.value ∙ last_digit (n / 10) (n % 10) few ∙ ap (λ x. Some x) e;
    }

decimal_digits : (n : ℕ) → n < 2 ^ 64 → AreDigits n (decimal n)
decimal_digits = decimal_by_steps AreDigits one_digit more_digits

not_hexadecimal : (ds : List ℕ) → list_all is_digit ds ≡ true → is_hexadecimal ds ≡ false
not_hexadecimal [] h = refl
not_hexadecimal (a ∷ []) h = refl
not_hexadecimal (a ∷ b ∷ ds) h =
    let second = and_left (is_digit b) (list_all is_digit ds) (and_right (is_digit a) (list_all is_digit (b ∷ ds)) h) in
    ap (λ t. nat_lt 2 (length (a ∷ b ∷ ds)) && (a == 48) && t) (differ is_digit b 120 second refl) ∙ no_last (nat_lt 2 (length (a ∷ b ∷ ds)) && (a == 48))
  where
    no_last : (t : Bool) → (t && false) ≡ false
    no_last true = refl
    no_last false = refl

digit_named : (b : ℕ) → is_digit b ≡ true → is_name_byte b ≡ true
digit_named b h = grind (arith, nat_tests)

digits_named : (ds : List ℕ) → list_all is_digit ds ≡ true → list_all is_name_byte ds ≡ true
digits_named [] h = refl
digits_named (d ∷ ds) h = both (is_name_byte d) (list_all is_name_byte ds) (digit_named d (and_left (is_digit d) (list_all is_digit ds) h)) (digits_named ds (and_right (is_digit d) (list_all is_digit ds) h))

digit_plain : (b : ℕ) → is_digit b ≡ true → not (not_plain b) ≡ true
digit_plain b h = grind (arith, nat_tests)

digits_plain : (ds : List ℕ) → list_all is_digit ds ≡ true → plain ds ≡ true
digits_plain [] h = refl
digits_plain (d ∷ ds) h = both (not (not_plain d)) (plain ds) (digit_plain d (and_left (is_digit d) (list_all is_digit ds) h)) (digits_plain ds (and_right (is_digit d) (list_all is_digit ds) h))

-- a run of digits in front of what goes on no name
run_of : (negative : Bool) (n : ℕ) (ds rest : List ℕ) → AreDigits n ds → Stops rest → run_front negative (ds ++ rest) ≡ front (kind_of_number negative (Some n)) (length ds)
run_of negative n ds rest a s =
    let len = name_run ds rest (digits_named ds a.digits) s in
    ap (λ k. front (kind_of_number negative (number_of (take k (ds ++ rest)))) k) len
    ∙ ap (λ r. front (kind_of_number negative (number_of r)) (length ds)) (take_at ds rest (length ds) refl)
    ∙ ap (λ t. front (kind_of_number negative (if t then number_from hex_digit 16 0 (drop 2 ds) else number_from decimal_digit 10 0 ds)) (length ds)) (not_hexadecimal ds a.digits)
    ∙ ap (λ v. front (kind_of_number negative v) (length ds)) a.value

fourth : {A : Type 0} (a b c d : Bool) (x y z u w : A) → a ≡ false → b ≡ false → c ≡ false → d ≡ true → (if a then x else if b then y else if c then z else if d then u else w) ≡ u
fourth a b c d x y z u w ha hb hc hd = rw (ha, hb, hc, hd) refl

second : {A : Type 0} (a b : Bool) (x y z : A) → a ≡ false → b ≡ true → (if a then x else if b then y else z) ≡ y
second a b x y z ha hb = rw (ha, hb) refl

-- a number without a sign
front_of_digits : (n : ℕ) (ds rest : List ℕ) → AreDigits n ds → Stops rest → front_of (ds ++ rest) ≡ front (kind_of_number false (Some n)) (length ds)
unfolding front_of
front_of_digits n [] rest a s = absurd (let some = a.some in omega arith)
front_of_digits n (d ∷ ds) rest a s =
    let digit = and_left (is_digit d) (list_all is_digit ds) a.digits in
    fourth (d == 64) (d == 34) (d == 39) (is_digit d) (front End 0) (quoted_front (closing false (ds ++ rest))) (character_front false (d ∷ (ds ++ rest))) (run_front false (d ∷ (ds ++ rest))) _ (differ is_digit d 64 digit refl) (differ is_digit d 34 digit refl) (differ is_digit d 39 digit refl) digit
    ∙ run_of false n (d ∷ ds) rest a s

-- a number after a sign
front_of_minus : (n : ℕ) (ds rest : List ℕ) → AreDigits n ds → Stops rest → front_of (45 ∷ (ds ++ rest)) ≡ after_minus (length ds) (kind_of_number true (Some n))
unfolding front_of
front_of_minus n [] rest a s = absurd (let some = a.some in omega arith)
front_of_minus n (d ∷ ds) rest a s =
    let digit = and_left (is_digit d) (list_all is_digit ds) a.digits in
    let chosen : (if d == 39 then character_front true (d ∷ (ds ++ rest)) else if is_digit d then run_front true (d ∷ (ds ++ rest)) else front Bad 0) ≡ front (kind_of_number true (Some n)) (length (d ∷ ds)) =
    second (d == 39) (is_digit d) (character_front true (d ∷ (ds ++ rest))) (run_front true (d ∷ (ds ++ rest))) (front Bad 0) (differ is_digit d 39 digit refl) digit
    ∙ run_of true n (d ∷ ds) rest a s in
    ap (λ f. after_minus f.len f.kind) chosen

below_zero : (n : ℕ) → pos 0 -ℤ pos (suc n) ≡ negsuc n
below_zero n = omega (arith, ints)

pub front_of_number : (z : ℤ) (rest : List ℕ) → InRange z → Stops rest → front_of (signed_decimal z ++ rest) ≡ front (Number z) (length (signed_decimal z))
front_of_number (pos n) rest h s =
    front_of_digits n (decimal n) rest (decimal_digits n (omega arith)) s
    ∙ ap (λ t. front (if t then Number (pos n) else Wide) (length (decimal n))) (le-leb n 4294967295 h)
front_of_number (negsuc n) rest h s =
    front_of_minus (suc n) (decimal (suc n)) rest (decimal_digits (suc n) (omega arith)) s
    ∙ ap (λ t. after_minus (length (decimal (suc n))) (if t then Number (pos 0 -ℤ pos (suc n)) else Wide)) (le-leb (suc n) 2147483648 (omega arith))
    ∙ ap (λ y. front (Number y) (length (decimal (suc n)) + 1)) (below_zero n)
    ∙ ap (λ k. front (Number (negsuc n)) k) (let e : length (decimal (suc n)) + 1 ≡ suc (length (decimal (suc n))) = omega arith in e)

blank_of_digits : (ds rest : List ℕ) → list_all is_digit ds ≡ true → 0 < length ds → prefix_len is_blank (ds ++ rest) ≡ 0
blank_of_digits [] rest h some = absurd (omega arith)
blank_of_digits (d ∷ ds) rest h some =
    let digit = and_left (is_digit d) (list_all is_digit ds) h in
    rw (differ is_digit d 32 digit refl, differ is_digit d 9 digit refl, differ is_digit d 13 digit refl) refl

pub blank_of_number : (z : ℤ) (rest : List ℕ) → InRange z → prefix_len is_blank (signed_decimal z ++ rest) ≡ 0
blank_of_number (pos n) rest h = let a = decimal_digits n (omega arith) in blank_of_digits (decimal n) rest a.digits a.some
blank_of_number (negsuc n) rest h = refl

pub number_some : (z : ℤ) → InRange z → 0 < length (signed_decimal z)
number_some (pos n) h = (decimal_digits n (omega arith)).some
number_some (negsuc n) h = omega arith

pub number_plain : (z : ℤ) → InRange z → plain (signed_decimal z) ≡ true
number_plain (pos n) h = digits_plain (decimal n) (decimal_digits n (omega arith)).digits
number_plain (negsuc n) h = digits_plain (decimal (suc n)) (decimal_digits (suc n) (omega arith)).digits

pub number_short : (z : ℤ) → InRange z → length (signed_decimal z) ≤ 11
number_short (pos n) h = omega (arith, length-decimal-le 10 n (omega arith) (omega arith) (omega arith))
number_short (negsuc n) h = omega (arith, length-decimal-le 10 (suc n) (omega arith) (omega arith) (omega arith))
