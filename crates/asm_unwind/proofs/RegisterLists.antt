-- The registers of a list are those of its r0 to r3 and then those of its r4 to lr.
use Rattle.std.proofs.Common.{◌≡◌, ℕ, ◌-◌, ◌*◌, ◌/◌, ◌%◌, ◌^◌, Bool, false, List, [], ◌∷◌, ◌++◌, ap, sym, ◌∙◌, refl, arith, append-nil}
use Rattle.std.specs.Prelude.{◌==◌, filter}
use Rattle.std.specs.List.{range_with_len, AllByRecursion}
use Rattle.std.proofs.lemmas.List.Elements.{filter-append}
use Rattle.asm_unwind.specs.Refusals.{has_register}
use Rattle.eh_codes.specs.Meaning.{registers_of_mask}
use Rattle.asm_unwind.specs.Meaning.{registers_in}

-- two tests that agree on each number of a list keep the same ones, and one that refuses each keeps none
filter_same : (p q : ℕ → Bool) (xs : List ℕ) → AllByRecursion (λ x. p x ≡ q x) xs → filter p xs ≡ filter q xs
filter_same p q [] h = refl
filter_same p q (x ∷ xs) h = rw (h.0, filter_same p q xs h.1) refl

filter_nothing : (p : ℕ → Bool) (xs : List ℕ) → AllByRecursion (λ x. p x ≡ false) xs → filter p xs ≡ []
filter_nothing p [] h = refl
filter_nothing p (x ∷ xs) h = rw (h.0, filter_nothing p xs h.1) refl

has_same : (a b k : ℕ) → a / 2 ^ k % 2 ≡ b / 2 ^ k % 2 → has_register a k ≡ has_register b k
has_same a b k e = ap (λ (bit : ℕ). bit == 1) e

has_none : (a k : ℕ) → a / 2 ^ k % 2 ≡ 0 → has_register a k ≡ false
has_none a k e = ap (λ (bit : ℕ). bit == 1) e

-- r0 to r3 of a list and of its remainder, which has no others
low_same : (r : ℕ) → filter (has_register r) (range_with_len 0 4) ≡ filter (has_register (r % 16)) (range_with_len 0 4)
low_same r = filter_same (has_register r) (has_register (r % 16)) (range_with_len 0 4)
    (has_same r (r % 16) 0 (omega arith), (has_same r (r % 16) 1 (omega arith), (has_same r (r % 16) 2 (omega arith), (has_same r (r % 16) 3 (omega arith), tt))))

low_only : (r : ℕ) → filter (has_register (r % 16)) (range_with_len 4 12) ≡ []
low_only r = filter_nothing (has_register (r % 16)) (range_with_len 4 12)
    (has_none (r % 16) 4 (omega arith), (has_none (r % 16) 5 (omega arith), (has_none (r % 16) 6 (omega arith), (has_none (r % 16) 7 (omega arith), (has_none (r % 16) 8 (omega arith), (has_none (r % 16) 9 (omega arith), (has_none (r % 16) 10 (omega arith), (has_none (r % 16) 11 (omega arith), (has_none (r % 16) 12 (omega arith), (has_none (r % 16) 13 (omega arith), (has_none (r % 16) 14 (omega arith), (has_none (r % 16) 15 (omega arith), tt))))))))))))

-- the same of those from r4 on
high_same : (r : ℕ) → filter (has_register r) (range_with_len 4 12) ≡ filter (has_register (16 * (r / 16))) (range_with_len 4 12)
high_same r = filter_same (has_register r) (has_register (16 * (r / 16))) (range_with_len 4 12)
    (has_same r (16 * (r / 16)) 4 (omega arith), (has_same r (16 * (r / 16)) 5 (omega arith), (has_same r (16 * (r / 16)) 6 (omega arith), (has_same r (16 * (r / 16)) 7 (omega arith), (has_same r (16 * (r / 16)) 8 (omega arith), (has_same r (16 * (r / 16)) 9 (omega arith), (has_same r (16 * (r / 16)) 10 (omega arith), (has_same r (16 * (r / 16)) 11 (omega arith), (has_same r (16 * (r / 16)) 12 (omega arith), (has_same r (16 * (r / 16)) 13 (omega arith), (has_same r (16 * (r / 16)) 14 (omega arith), (has_same r (16 * (r / 16)) 15 (omega arith), tt))))))))))))

high_only : (r : ℕ) → filter (has_register (16 * (r / 16))) (range_with_len 0 4) ≡ []
high_only r = filter_nothing (has_register (16 * (r / 16))) (range_with_len 0 4)
    (has_none (16 * (r / 16)) 0 (omega arith), (has_none (16 * (r / 16)) 1 (omega arith), (has_none (16 * (r / 16)) 2 (omega arith), (has_none (16 * (r / 16)) 3 (omega arith), tt))))

in_parts : (r : ℕ) → registers_in r ≡ filter (has_register r) (range_with_len 0 4) ++ filter (has_register r) (range_with_len 4 12)
in_parts r = filter-append (has_register r) (range_with_len 0 4) (range_with_len 4 12)

pub registers_in-split : (r : ℕ) → registers_in r ≡ registers_in (r % 16) ++ registers_in (16 * (r / 16))
registers_in-split r =
    let low : registers_in (r % 16) ≡ filter (has_register r) (range_with_len 0 4) =
    in_parts (r % 16) ∙ ap (λ l. filter (has_register (r % 16)) (range_with_len 0 4) ++ l) (low_only r) ∙ append-nil (filter (has_register (r % 16)) (range_with_len 0 4)) ∙ sym (low_same r) in
    let high : registers_in (16 * (r / 16)) ≡ filter (has_register r) (range_with_len 4 12) =
    in_parts (16 * (r / 16)) ∙ ap (λ l. l ++ filter (has_register (16 * (r / 16))) (range_with_len 4 12)) (high_only r) ∙ sym (high_same r) in
    in_parts r ∙ ap (λ l. l ++ filter (has_register r) (range_with_len 4 12)) (sym low) ∙ ap (λ l. registers_in (r % 16) ++ l) (sym high)

-- a mask of r4 to r15 and one of r0 to r3 as register lists
pub high_masked : (h : ℕ) → registers_of_mask 4 12 h ≡ registers_in (16 * h)
high_masked h =
    let test : ℕ → Bool = λ register. h / 2 ^ (register - 4) % 2 == 1 in
    let same : filter test (range_with_len 4 12) ≡ filter (has_register (16 * h)) (range_with_len 4 12) =
    filter_same test (has_register (16 * h)) (range_with_len 4 12)
    (bit h 0 4 (omega arith), (bit h 1 5 (omega arith), (bit h 2 6 (omega arith), (bit h 3 7 (omega arith), (bit h 4 8 (omega arith), (bit h 5 9 (omega arith), (bit h 6 10 (omega arith), (bit h 7 11 (omega arith), (bit h 8 12 (omega arith), (bit h 9 13 (omega arith), (bit h 10 14 (omega arith), (bit h 11 15 (omega arith), tt)))))))))))) in
    let none : filter (has_register (16 * h)) (range_with_len 0 4) ≡ [] =
    filter_nothing (has_register (16 * h)) (range_with_len 0 4)
    (has_none (16 * h) 0 (omega arith), (has_none (16 * h) 1 (omega arith), (has_none (16 * h) 2 (omega arith), (has_none (16 * h) 3 (omega arith), tt)))) in
    same ∙ sym (in_parts (16 * h) ∙ ap (λ l. l ++ filter (has_register (16 * h)) (range_with_len 4 12)) none)
  where
    bit : (h k n : ℕ) → h / 2 ^ k % 2 ≡ 16 * h / 2 ^ n % 2 → (h / 2 ^ k % 2 == 1) ≡ has_register (16 * h) n
    bit h k n e = ap (λ (bit : ℕ). bit == 1) e

pub low_masked : (r : ℕ) → registers_of_mask 0 4 (r % 16) ≡ registers_in (r % 16)
low_masked r =
    sym (in_parts (r % 16) ∙ ap (λ l. filter (has_register (r % 16)) (range_with_len 0 4) ++ l) (low_only r) ∙ append-nil (filter (has_register (r % 16)) (range_with_len 0 4)))
