-- Where a table's descriptors begin, and how wide they are.
use Rattle.std.proofs.Common.{◌≡◌, ℕ, ◌+◌, ◌*◌, ◌/◌, ◌%◌, ◌^◌, ◌<◌, ◌≤◌, ◌==◌, Bool, true, false, cond, List, [], ◌∷◌, length, Some, refl, ap, ◌∙◌, arith}
use Rattle.std.specs.Prelude.{slice_index, Ok}
use Rattle.std.proofs.lemmas.Bool.Decides.{nat_tests}
use Rattle.eh_word.specs.Words.{number_at}
use Rattle.eh_codes.specs.Words.{personality_of_word, code_words_after}
use Rattle.eh_bytecode.specs.Codes.{table_codes}
use Rattle.eh_bytecode.proofs.CodesLaws.{FirstWord, word_of, short_first, long_first}
use Rattle.eh_desc.specs.Grammar.{items_from, items_after, if_codes}
use Rattle.eh_table_laws.specs.Tables.{Begin, table_bytes, IndexZeroIsNarrow, LongIndices}
use Rattle.eh_table_laws.proofs.Reading.{number_there}

first_number : (a b c d : ℕ) (more : List ℕ) → number_at 4 (a ∷ b ∷ c ∷ d ∷ more) 0 ≡ Some (word_of a b c d)
first_number a b c d more = number_there (a ∷ b ∷ c ∷ d ∷ more) 0 (omega arith)

-- readable codes, a first word, its width and how many words of code stand after it
begin : (start address a b c d place : ℕ) (more codes : List ℕ) (wide : Bool) → table_codes (a ∷ b ∷ c ∷ d ∷ more) ≡ Ok codes
    → (personality_of_word (word_of a b c d) == 2) ≡ wide → 4 + 4 * code_words_after (word_of a b c d) ≡ place → Begin start address (a ∷ b ∷ c ∷ d ∷ more) place wide
begin start address a b c d place more codes wide readable width further =
    let bytes : List ℕ = a ∷ b ∷ c ∷ d ∷ more in
    ap (λ r. if_codes r (items_after start address bytes (number_at 4 bytes 0))) readable
    ∙ ap (items_after start address bytes) (first_number a b c d more)
    ∙ ap (λ w. items_from (record { bytes = bytes; address = address; start = start; wide = w }) (4 + 4 * code_words_after (word_of a b c d))) width
    ∙ ap (λ p. items_from (record { bytes = bytes; address = address; start = start; wide = wide }) p) further

first : (a b c d : ℕ) → a < 256 → b < 256 → c < 256 → d < 256 → FirstWord a b c d
first a b c d ha hb hc hd = record { small_a = ha; small_b = hb; small_c = hc; small_d = hd }

number_of : (a b c d k : ℕ) → a < 256 → b < 256 → c < 256 → d ≡ 128 + k → k < 16 → personality_of_word (word_of a b c d) ≡ k
number_of a b c d k ha hb hc hd hk = omega arith

pub index_zero_is_narrow : IndexZeroIsNarrow
index_zero_is_narrow start address count b a more hc hb ha =
    let none : personality_of_word (word_of a b count 128) ≡ 0 = number_of a b count 128 0 ha hb hc refl (omega arith) in
    begin start address a b count 128 4 more (count ∷ b ∷ a ∷ []) false (short_first a b count 128 more (first a b count 128 ha hb hc (omega arith)) refl)
    (ap (λ k. k == 2) none)
    (ap (λ k. 4 + 4 * cond (k == 0) 0 (word_of a b count 128 / 2 ^ 16 % 2 ^ 8)) none)

long : (start address count b a k : ℕ) (more : List ℕ) (wide : Bool) → a < 256 → b < 256 → count < 256 → 0 < k → k < 3 → (k == 2) ≡ wide
    → 4 * count ≤ length more → ((i : ℕ) → slice_index more i < 256) → Begin start address (table_bytes (128 + k) count b a more) (4 + 4 * count) wide
long start address count b a k more wide ha hb hc some low width room small =
    let number : personality_of_word (word_of a b count (128 + k)) ≡ k = number_of a b count (128 + k) k ha hb hc refl (omega arith) in
    let none : (personality_of_word (word_of a b count (128 + k)) == 0) ≡ false = grind (arith, nat_tests) in
    let counted : word_of a b count (128 + k) / 2 ^ 16 % 2 ^ 8 ≡ count = omega arith in
    begin start address a b count (128 + k) (4 + 4 * count) more _ wide
    (long_first a b count (128 + k) more (first a b count (128 + k) ha hb hc (omega arith)) (omega arith) (omega arith) room small)
    (ap (λ n. n == 2) number ∙ width)
    (ap (λ t. 4 + 4 * cond t 0 (word_of a b count (128 + k) / 2 ^ 16 % 2 ^ 8)) none ∙ ap (λ n. 4 + 4 * n) counted)

pub long_indices : LongIndices
long_indices start address count b a more hc hb ha room small = (
  long start address count b a 1 more false ha hb hc (omega arith) (omega arith) refl room small,
  long start address count b a 2 more true ha hb hc (omega arith) (omega arith) refl room small,
)
