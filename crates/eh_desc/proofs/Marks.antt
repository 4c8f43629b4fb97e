-- What the marks of a descriptor say.
use Rattle.std.proofs.Common.{◌≡◌, ℕ, ◌+◌, ◌%◌, ◌^◌, ◌≤◌, ◌==◌, true, false, refl, ap, arith}
use Rattle.std.specs.Prelude.{nat_le, nat_lt}
use Rattle.std.proofs.lemmas.Bool.Decides.{nat_tests}
use Rattle.eh_word.specs.Words.{prel31_of}
use Rattle.eh_codes.specs.declared.words.TheConstants.{REFERENCE_MARK, LANDING_PAD_MARK}
use Rattle.eh_codes.specs.Rows.{even}
use Rattle.eh_desc.specs.declared.descriptor.TheConstants.{MOST_TYPES}
use Rattle.eh_desc.specs.Grammar.{address_at}
use Rattle.eh_desc.specs.Laws.{CleanupsHaveNoMark, CatchesMarkTheLength, SpecificationsMarkTheOffset, BothMarksAreRefused}

clear : (n : ℕ) → n % 2 ≡ 0 → (n % 2 == 0) ≡ true
clear n h = ap (λ k. k == 0) h

set : (n : ℕ) → n % 2 ≡ 0 → ((n + 1) % 2 == 0) ≡ false
set n h = let e : (n + 1) % 2 ≡ 1 = omega arith in ap (λ k. k == 0) e

even_same : (n : ℕ) → n % 2 ≡ 0 → even n ≡ n
even_same n h = omega arith

even_marked : (n : ℕ) → n % 2 ≡ 0 → even (n + 1) ≡ n
even_marked n h = omega arith

-- bit 31 is no part of the way
same_way : (place word : ℕ) → prel31_of place (word + REFERENCE_MARK) ≡ prel31_of place word
unfolding prel31_of
same_way place word = let e : (word + REFERENCE_MARK) % 2 ^ 31 ≡ word % 2 ^ 31 = omega arith in rw e refl

pub law_of_cleanups : CleanupsHaveNoMark
law_of_cleanups t place length offset at pad l o there = rw (clear offset o, clear length l, there, even_same offset o, even_same length l) refl

pub law_of_catches : CatchesMarkTheLength
law_of_catches t place length offset at pad type l o small second = (
  λ there. rw (clear offset o, set length l, there, second, below, even_same offset o, even_marked length l) refl,
  λ there. rw (clear offset o, set length l, there, second, above, same_way (address_at t at) pad, even_same offset o, even_marked length l) refl,
)
  where
    below : nat_le REFERENCE_MARK pad ≡ false
    below = grind (arith, nat_tests)

    above : nat_le REFERENCE_MARK (pad + REFERENCE_MARK) ≡ true
    above = grind (arith, nat_tests)

few : (count : ℕ) → count ≤ MOST_TYPES → nat_lt MOST_TYPES count ≡ false
few count h = grind (arith, nat_tests)

count_alone : (count : ℕ) → count ≤ MOST_TYPES → count % LANDING_PAD_MARK ≡ count
count_alone count h = omega arith

count_marked : (count : ℕ) → count ≤ MOST_TYPES → (count + LANDING_PAD_MARK) % LANDING_PAD_MARK ≡ count
count_marked count h = omega arith

unmarked : (count : ℕ) → count ≤ MOST_TYPES → nat_le LANDING_PAD_MARK count ≡ false
unmarked count h = grind (arith, nat_tests)

marked : (count : ℕ) → nat_le LANDING_PAD_MARK (count + LANDING_PAD_MARK) ≡ true
marked count = grind (arith, nat_tests)

pub law_of_specifications : SpecificationsMarkTheOffset
law_of_specifications t place length offset at count l o low there = (
  λ first. rw (set offset o, clear length l, first, count_alone count low, few count low, unmarked count low, there, even_marked offset o, even_same length l) refl,
  λ pad first after. rw (set offset o, clear length l, first, count_marked count low, few count low, marked count, there, after, even_marked offset o, even_same length l) refl,
)

pub law_of_both : BothMarksAreRefused
law_of_both t place length offset at l o = rw (set offset o, set length l) refl
