-- The types of a specification are counted from their own places.
use Rattle.std.proofs.Common.{◌≡◌, ℕ, ◌+◌, ◌-◌, ◌*◌, ◌%◌, ◌^◌, ◌≤◌, true, false, List, [], ◌∷◌, ◌++◌, length, drop, length-drop, Some, refl, ap, sym, ◌∙◌, arith, ne_eqb}
use Rattle.std.specs.Prelude.{nat_le, All, find, option_map}
use Rattle.std.proofs.lemmas.Bool.Decides.{nat_tests}
use Rattle.std.proofs.lemmas.List.Elements.{All-head, All-tail}
use Rattle.eh_word.specs.Words.{number_at}
use Rattle.elf_image.specs.Segments.{Segment}
use Rattle.eh_index.specs.Places.{holds_byte, bytes_at}
use Rattle.eh_desc.specs.Grammar.{first_word}
use Rattle.eh_table_laws.specs.Words.{WordStands}
use Rattle.eh_table_laws.specs.Tables.{IsThere, SpecificationTypes}
use Rattle.eh_table_laws.proofs.Reading.{number_there, four_bytes}

found_in : (before : List Segment) (s : Segment) (after : List Segment) (a : ℕ) → All (λ (o : Segment). o.start + length o.bytes ≤ a) before → holds_byte a s ≡ true
    → find (holds_byte a) (before ++ s ∷ after) ≡ Some s
found_in [] s after a below h = rw h refl
found_in (o ∷ before) s after a below h =
    rw (past o (All-head (λ (o : Segment). o.start + length o.bytes ≤ a) o before below)) (found_in before s after a (All-tail (λ (o : Segment). o.start + length o.bytes ≤ a) o before below) h)
  where
    past : (o : Segment) → o.start + length o.bytes ≤ a → holds_byte a o ≡ false
    past o h = grind (arith, nat_tests)

front : (bytes : List ℕ) (k word : ℕ) → WordStands bytes k word → number_at 4 (drop k bytes) 0 ≡ Some word
front bytes k word w = number_there (drop k bytes) 0 (omega (arith, length-drop k bytes, w.inside)) ∙ ap Some (four_bytes bytes k ∙ sym w.is)

there : (segments : List Segment) (a word : ℕ) → IsThere segments a word → first_word (bytes_at segments a) ≡ Some word
there segments a word t =
    let holds : holds_byte a t.segment ≡ true = held t.segment t.read_only t.begins t.stands in
    ap (λ l. first_word (option_map (λ (s : Segment). drop (a - s.start) s.bytes) (find (holds_byte a) l))) t.place
    ∙ ap (λ o. first_word (option_map (λ (s : Segment). drop (a - s.start) s.bytes) o)) (found_in t.before t.segment t.after a t.below holds)
    ∙ front t.segment.bytes (a - t.segment.start) word t.stands
  where
    held : (s : Segment) → s.write ≡ false → s.start ≤ a → WordStands s.bytes (a - s.start) word → holds_byte a s ≡ true
    held s r b w = let inside : a - s.start + 4 ≤ length s.bytes = w.inside in grind (arith, nat_tests)

pub specification_types : SpecificationTypes
specification_types segments types count pad = record {
  named = λ i word h low t some.
      let few : nat_le count i ≡ false = grind (arith, nat_tests) in
      let own : (types + 4 * i) % 2 ^ 32 ≡ types + 4 * i = omega arith in
      rw (few, own, there segments (types + 4 * i) word t, ne_eqb word 0 some) refl;
  none = λ i h low t.
      let few : nat_le count i ≡ false = grind (arith, nat_tests) in
      let own : (types + 4 * i) % 2 ^ 32 ≡ types + 4 * i = omega arith in
      rw (few, own, there segments (types + 4 * i) 0 t) refl;
  counted = λ i h. let many : nat_le count i ≡ true = grind (arith, nat_tests) in rw many refl;
}
