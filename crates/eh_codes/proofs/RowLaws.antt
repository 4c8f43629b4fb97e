-- The rows of the index are read as they were written.
use Rattle.std.proofs.Common.{◌≡◌, ℕ, ◌%◌, ◌^◌, ◌<◌, ◌==◌, Bool, true, false, cond, refl, arith, ap, pos}
use Rattle.std.specs.Prelude.{nat_le, nat_lt, ◌-ℤ◌}
use Rattle.std.proofs.lemmas.Bool.Decides.{nat_tests}
use Rattle.std.proofs.lemmas.Int.{ints}
use Rattle.eh_word.specs.Words.{plus_offset, prel31_of}
use Rattle.eh_codes.specs.declared.row.EntryBody.TheVariants.{CantUnwind, Inline, Table}
use Rattle.eh_codes.specs.declared.words.TheConstants.{COMPACT_MARK}
use Rattle.eh_codes.specs.Rows.{prel31_to}
use Rattle.eh_codes.specs.Laws.{RowsReadBack}

seen_cases : (place target n : ℕ) (near : Bool) → nat_lt n (2 ^ 30) ≡ near → place < 2 ^ 30 → target < 2 ^ 30 → n ≡ prel31_to place target →
    plus_offset place (cond near (pos n) (pos n -ℤ pos (2 ^ 31))) ≡ target
seen_cases place target n true s p t e = grind (arith, nat_tests, ints)
seen_cases place target n false s p t e = grind (arith, nat_tests, ints)

-- the bits that lead to an address lead to it
pub seen_back : (place target : ℕ) → place < 2 ^ 30 → target < 2 ^ 30 → prel31_of place (prel31_to place target) ≡ target
unfolding prel31_of
seen_back place target p t = seen_cases place target (prel31_to place target % 2 ^ 31) (nat_lt (prel31_to place target % 2 ^ 31) (2 ^ 30)) refl p t (omega arith)

pub law_of_rows : RowsReadBack
law_of_rows place CantUnwind p whole h = refl
law_of_rows place (Inline word) p whole h =
    let a : (word == 1) ≡ false = grind (arith, nat_tests) in
    let b : nat_le COMPACT_MARK word ≡ true = grind (arith, nat_tests) in
    rw (a, b) refl
law_of_rows place (Table address) p whole h =
    let low : address < 2 ^ 30 = h.0 in
    let even : address % 4 ≡ 0 = h.1 in
    let n : ℕ = prel31_to place address in
    let a : (n == 1) ≡ false = not_one n (omega arith) in
    let b : nat_le COMPACT_MARK n ≡ false = grind (arith, nat_tests) in
    rw (a, b) (ap Table (seen_back place address p low))
  where
    not_one : (n : ℕ) → n % 4 ≡ 0 → (n == 1) ≡ false
    not_one n h = grind (arith, nat_tests)
