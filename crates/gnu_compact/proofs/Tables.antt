-- Tables are read as they were written.
use Rattle.std.proofs.Common.{◌≡◌, ℕ, suc, ◌+◌, ◌*◌, ◌/◌, ◌%◌, ◌^◌, ◌<◌, ◌≤◌, ◌==◌, true, cond, Some, List, [], ◌∷◌, ◌++◌, length, take, drop, refl, sym, ap, ◌∙◌, arith, append_assoc, subst}
use Rattle.std.specs.Prelude.{Ok}
use Rattle.std.proofs.Math.Seq.{drop-append_seam, take-append_seam}
use Rattle.eh_bytecode.specs.Codes.{swap_word_bytes, table_codes}
use Rattle.eh_bytecode.proofs.CodesLaws.{word_of, long_first, length-turned}
use Rattle.eh_word.specs.Words.{number_at}
use Rattle.eh_codes.specs.Words.{personality_of_word, code_words_after}
use Rattle.eh_desc.specs.Grammar.{items_from, items_after, if_codes, table_items}
use Rattle.gnu_compact.specs.declared.descriptor.OwnDescriptor.{OwnDescriptor}
use Rattle.gnu_compact.specs.Descriptors.{descriptors_bytes}
use Rattle.gnu_compact.specs.Tables.{further_words, codes_end, table_bytes}
use Rattle.gnu_compact.specs.Laws.{IsTable, AreDescriptors, descriptors_size, items_as, TablesAreReadAsWritten}
use Rattle.gnu_compact.proofs.Bytes.{Small, small_at, at_small, small_both, small_turned, small_descriptors, turned_twice}
use Rattle.gnu_compact.proofs.Reading.{number_there, items_back}

-- the codes after the first two, in whole words
record Split (rest : List ℕ) (k : ℕ) : Type 0 where
  whole : length rest % 4 ≡ 0
  counted : length rest ≡ 4 * k
  few : k < 256

tail_of : List ℕ → ℕ → List OwnDescriptor → List ℕ → List ℕ
tail_of rest at ds after = swap_word_bytes rest ++ (descriptors_bytes at ds ++ after)

written : (first second : ℕ) (rest : List ℕ) (place : ℕ) (ds : List OwnDescriptor) (after : List ℕ)
    → (k at : ℕ) → further_words (first ∷ second ∷ rest) ≡ k → (place + codes_end (first ∷ second ∷ rest)) % 2 ^ 32 ≡ at
    → table_bytes place (first ∷ second ∷ rest) ds ++ after ≡ second ∷ first ∷ k ∷ 130 ∷ tail_of rest at ds after
unfolding tail_of
written first second rest place ds after k at e f =
    ap (λ (xs : List ℕ). second ∷ first ∷ further_words (first ∷ second ∷ rest) ∷ 130 ∷ xs) (append_assoc (swap_word_bytes rest) (descriptors_bytes ((place + codes_end (first ∷ second ∷ rest)) % 2 ^ 32) ds) after)
    ∙ ap (λ n. second ∷ first ∷ n ∷ 130 ∷ (swap_word_bytes rest ++ (descriptors_bytes ((place + codes_end (first ∷ second ∷ rest)) % 2 ^ 32) ds ++ after))) e
    ∙ ap (λ n. second ∷ first ∷ k ∷ 130 ∷ (swap_word_bytes rest ++ (descriptors_bytes n ds ++ after))) f

small_tail : (rest : List ℕ) (at : ℕ) (ds : List OwnDescriptor) (after : List ℕ) → Small rest → Small after → Small (tail_of rest at ds after)
unfolding tail_of
small_tail rest at ds after h g = small_both (swap_word_bytes rest) _ (small_turned rest h) (small_both (descriptors_bytes at ds) after (small_descriptors at ds) g)

front_of : (rest : List ℕ) (at k : ℕ) (ds : List OwnDescriptor) (after : List ℕ) → Split rest k
    → (take (4 * k) (tail_of rest at ds after) ≡ swap_word_bytes rest) × (drop (4 * k) (tail_of rest at ds after) ≡ descriptors_bytes at ds ++ after) × (4 * k ≤ length (tail_of rest at ds after))
unfolding tail_of
front_of rest at k ds after s =
    let w = s.whole in
    let c = s.counted in
    let size : length (swap_word_bytes rest) ≡ 4 * k = length-turned rest ∙ omega arith in (
      ap (λ n. take n (swap_word_bytes rest ++ (descriptors_bytes at ds ++ after))) (sym size) ∙ take-append_seam (swap_word_bytes rest) (descriptors_bytes at ds ++ after),
      ap (λ n. drop n (swap_word_bytes rest ++ (descriptors_bytes at ds ++ after))) (sym size) ∙ drop-append_seam (swap_word_bytes rest) (descriptors_bytes at ds ++ after),
      omega (arith, size, length-both (swap_word_bytes rest) (descriptors_bytes at ds ++ after)),
    )
  where
    length-both : (xs ys : List ℕ) → length xs ≤ length (xs ++ ys)
    length-both [] ys = omega arith
    length-both (x ∷ xs) ys = omega (arith, length-both xs ys)

codes_back : (first second k : ℕ) (rest : List ℕ) (at : ℕ) (ds : List OwnDescriptor) (after : List ℕ) → Small (first ∷ second ∷ rest) → Small after → Split rest k
    → table_codes (second ∷ first ∷ k ∷ 130 ∷ tail_of rest at ds after) ≡ Ok (first ∷ second ∷ rest)
codes_back first second k rest at ds after small after_small s =
    let front = front_of rest at k ds after s in
    let few = s.few in
    long_first second first k 130 (tail_of rest at ds after)
    (record { small_a = small.1.0; small_b = small.0; small_c = omega arith; small_d = omega arith }) (omega arith) (omega arith) front.2
    (small_at (tail_of rest at ds after) (small_tail rest at ds after small.1.1 after_small))
    ∙ ap (λ (xs : List ℕ). Ok (first ∷ second ∷ swap_word_bytes xs)) front.0
    ∙ ap (λ (xs : List ℕ). Ok (first ∷ second ∷ xs)) (turned_twice rest s.whole)

-- ---- where the descriptors begin

second_is : (a b k : ℕ) → a < 256 → b < 256 → k < 256 → personality_of_word (word_of a b k 130) ≡ 2
second_is a b k ha hb hk = omega arith

counted_is : (a b k : ℕ) → a < 256 → b < 256 → k < 256 → word_of a b k 130 / 2 ^ 16 % 2 ^ 8 ≡ k
counted_is a b k ha hb hk = omega arith

further_is : (a b k : ℕ) → a < 256 → b < 256 → k < 256 → code_words_after (word_of a b k 130) ≡ k
further_is a b k ha hb hk =
    ap (λ n. cond (n == 0) 0 (word_of a b k 130 / 2 ^ 16 % 2 ^ 8)) (second_is a b k ha hb hk) ∙ counted_is a b k ha hb hk

first_number : (a b k : ℕ) (more : List ℕ) → number_at 4 (a ∷ b ∷ k ∷ 130 ∷ more) 0 ≡ Some (word_of a b k 130)
first_number a b k more = number_there (a ∷ b ∷ k ∷ 130 ∷ more) 0 (omega arith)

begins : (start place a b k : ℕ) (more codes : List ℕ) → a < 256 → b < 256 → k < 256 → table_codes (a ∷ b ∷ k ∷ 130 ∷ more) ≡ Ok codes
    → table_items start place (a ∷ b ∷ k ∷ 130 ∷ more) ≡ items_from (record { bytes = a ∷ b ∷ k ∷ 130 ∷ more; address = place; start = start; wide = true }) (4 + 4 * k)
begins start place a b k more codes ha hb hk readable =
    let bytes : List ℕ = a ∷ b ∷ k ∷ 130 ∷ more in
    ap (λ r. if_codes r (items_after start place bytes (number_at 4 bytes 0))) readable
    ∙ ap (items_after start place bytes) (first_number a b k more)
    ∙ ap (λ n. items_from (record { bytes = bytes; address = place; start = start; wide = n == 2 }) (4 + 4 * code_words_after (word_of a b k 130))) (second_is a b k ha hb hk)
    ∙ ap (λ n. items_from (record { bytes = bytes; address = place; start = start; wide = true }) (4 + 4 * n)) (further_is a b k ha hb hk)

descriptors_back : (start place at first second k : ℕ) (rest : List ℕ) (ds : List OwnDescriptor) (after : List ℕ) → place + (4 + 4 * k) ≡ at → at + descriptors_size ds ≤ 2 ^ 30
    → AreDescriptors at ds → Small (first ∷ second ∷ rest) → Small after → Split rest k
    → table_items start place (second ∷ first ∷ k ∷ 130 ∷ tail_of rest at ds after) ≡ items_as start at ds
descriptors_back start place at first second k rest ds after here low each small after_small s =
    let tail = tail_of rest at ds after in
    let bytes : List ℕ = second ∷ first ∷ k ∷ 130 ∷ tail in
    let front = front_of rest at k ds after s in
    let four : 4 + 4 * k ≡ suc (suc (suc (suc (4 * k)))) = omega arith in
    let stands : drop (4 + 4 * k) bytes ≡ descriptors_bytes at ds ++ after = ap (λ n. drop n bytes) four ∙ front.1 in
    begins start place second first k tail (first ∷ second ∷ rest) small.1.0 small.0 s.few (codes_back first second k rest at ds after small after_small s)
    ∙ items_back (record { bytes = bytes; address = place; start = start; wide = true }) after (4 + 4 * k) at ds refl here low each stands

both_back : (start place at k first second : ℕ) (rest : List ℕ) (ds : List OwnDescriptor) (after : List ℕ)
    → further_words (first ∷ second ∷ rest) ≡ k → place + codes_end (first ∷ second ∷ rest) ≡ at → IsTable place (first ∷ second ∷ rest) ds → Small after
    → (table_codes (table_bytes place (first ∷ second ∷ rest) ds ++ after) ≡ Ok (first ∷ second ∷ rest))
    × (table_items start place (table_bytes place (first ∷ second ∷ rest) ds ++ after) ≡ items_as start at ds)
both_back start place at k first second rest ds after counted here is after_small =
    let codes : List ℕ = first ∷ second ∷ rest in
    let small = at_small codes is.bytes in
    let whole = is.whole in
    let few = is.few in
    let low = is.low in
    let end : codes_end codes ≡ 4 + 4 * k = ap (λ n. 4 + 4 * n) counted in
    let s : Split rest k = record { whole = omega arith; counted = omega arith; few = omega arith } in
    let where_to : (place + codes_end codes) % 2 ^ 32 ≡ at = omega (arith, here, low) in
    let is_written = written first second rest place ds after k at counted where_to in (
      ap table_codes is_written ∙ codes_back first second k rest at ds after small after_small s,
      ap (table_items start place) is_written
          ∙ descriptors_back start place at first second k rest ds after (ap (λ n. place + n) (sym end) ∙ here) (omega (arith, here, low))
          (subst (λ n. AreDescriptors n ds) here is.each) small after_small s,
    )

pub law_of_tables : TablesAreReadAsWritten
law_of_tables start place [] ds after is small = absurd (let w = is.whole in omega arith)
law_of_tables start place (first ∷ []) ds after is small = absurd (let w = is.whole in omega arith)
law_of_tables start place (first ∷ second ∷ rest) ds after is small =
    both_back start place (place + codes_end (first ∷ second ∷ rest)) (further_words (first ∷ second ∷ rest)) first second rest ds after refl refl is (at_small after small)
