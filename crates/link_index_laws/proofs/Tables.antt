-- The bytes of a function's table in the image.
use Rattle.std.proofs.Common.{◌≡◌, ℕ, ◌+◌, ◌-◌, ◌*◌, ◌≤◌, ◌<◌, Bool, true, false, cond, List, [], ◌∷◌, ◌++◌, length, take, drop, find, flat_map, get_or, All, Some, refl, sym, ap, ◌∙◌, arith, append_assoc, length-append, length-drop, subst, filter}
use Rattle.std.specs.Prelude.{option_map}
use Rattle.std.proofs.lemmas.Bool.{true≢false}
use Rattle.std.proofs.lemmas.Grind.{same_number_lists}
use Rattle.std.proofs.lemmas.List.{drop-drop, drop-append-le, take-append-drop, length-take-le, get_or-take, get_or-drop}
use Rattle.std.proofs.Math.Seq.{drop-append_seam, take-append_seam}
use Rattle.asm_unwind.specs.declared.entry.EntryWords.{EntryWords}
use Rattle.asm_unwind.specs.declared.entry.EntryWords.TheVariants as words
use Rattle.asm_relocatable.specs.declared.place.Section.{Section}
use Rattle.asm_relocatable.specs.declared.place.Section.TheVariants.{Extab}
use Rattle.asm_relocatable.specs.Sections.{same_section}
use Rattle.asm_relocatable.specs.declared.object.Object.{Object}
use Rattle.asm_relocatable.specs.declared.object.Reloc.{Reloc}
use Rattle.asm_object.specs.Bytes.{word_bytes}
use Rattle.asm_relocatable.specs.Fields.{StandInOrder}
use Rattle.asm_relocatable.specs.Relocations.{field_size}
use Rattle.eh_word.specs.Bytes.{next_multiple}
use Rattle.elf_image.specs.Segments.{Segment}
use Rattle.eh_link.specs.declared.places.TheConstants.{CODE_START}
use Rattle.eh_link.specs.Placed.{PlacedObject}
use Rattle.eh_link.specs.Layout.{layout_of, place_objects}
use Rattle.eh_link.specs.FieldLaw.{IsInField, IsInNoField}
use Rattle.eh_link.specs.Fields.{part_in, fill_object}
use Rattle.eh_link.specs.LayoutLaw.{StandsAt, linked_code}
use Rattle.eh_link.specs.Symbols.{meaning_of}
use Rattle.eh_link.proofs.Holding.{law_of_other_bytes}
use Rattle.eh_link.proofs.Standing.{extab_sizes, law_of_code}
use Rattle.eh_index.specs.Places.{holds_byte, bytes_at}
use Rattle.asm_laws.specs.Functions.{Function, source_of}
use Rattle.asm_laws.specs.RowLaw.{walk_over, entry_for, TableStands}
use Rattle.asm_laws.specs.SourceRowLaw.{LiesIn}
use Rattle.asm_laws.proofs.Fields.{FieldsAround, fields_around}
use Rattle.link_index_laws.specs.SourceIndex.{table_at, TablesAreThere}
use Rattle.link_index_laws.proofs.Found.{in_image, all_mid}
use Rattle.link_index_laws.proofs.Reading.{byte_there, image_read}

-- ---- bytes in no field

-- none of these fields has the byte
abbrev NotIn : ℕ → List Reloc → Type 0
NotIn offset [] = Unit {0}
NotIn offset (reloc ∷ more) = (reloc.offset ≤ offset → offset < reloc.offset + field_size reloc → ⊥) × NotIn offset more

not_in_both : (offset : ℕ) (xs ys : List Reloc) → NotIn offset xs → NotIn offset ys → NotIn offset (xs ++ ys)
not_in_both offset [] ys h k = k
not_in_both offset (x ∷ xs) ys h k = (h.0, not_in_both offset xs ys h.1 k)

-- the relocations of a section
abbrev kept : Section → List Reloc → List Reloc
kept section relocs = filter (λ reloc. same_section reloc.section section) relocs

from_kept : (section : Section) (offset : ℕ) (relocs : List Reloc) → NotIn offset (kept section relocs) → IsInNoField section offset relocs
from_kept section offset [] h = tt
from_kept section offset (reloc ∷ more) h =
    by (same_section reloc.section section) refl h (λ k. from_kept section offset more k)
  where
    by : (b : Bool) → same_section reloc.section section ≡ b → NotIn offset (cond b (reloc ∷ kept section more) (kept section more))
        → (NotIn offset (kept section more) → IsInNoField section offset more) → (IsInField section offset reloc → ⊥) × IsInNoField section offset more
    by true e h rest = ((λ f. h.0 f.from f.below), rest h.1)
    by false e h rest = ((λ f. true≢false (sym f.here ∙ e)), rest h)

order_ends : (from : ℕ) (relocs : List Reloc) (end : ℕ) → StandInOrder from relocs end → from ≤ end
order_ends from [] end s = s
order_ends from (reloc ∷ more) end s = omega (arith, s.0, order_ends (reloc.offset + field_size reloc) more end s.1)

not_below : (offset from : ℕ) (relocs : List Reloc) (end : ℕ) → StandInOrder from relocs end → end ≤ offset → NotIn offset relocs
not_below offset from [] end s h = tt
not_below offset from (reloc ∷ more) end s h =
    let ends = order_ends (reloc.offset + field_size reloc) more end s.1 in
    ((λ low high. omega (arith, ends, h, high)), not_below offset (reloc.offset + field_size reloc) more end s.1 h)

not_above : (offset from : ℕ) (relocs : List Reloc) (end : ℕ) → StandInOrder from relocs end → offset < from → NotIn offset relocs
not_above offset from [] end s h = tt
not_above offset from (reloc ∷ more) end s h =
    ((λ low high. omega (arith, s.0, h, low)), not_above offset (reloc.offset + field_size reloc) more end s.1 (omega (arith, s.0, h)))

in_no_field : (object : Object) (table end offset : ℕ) → FieldsAround object table end → table ≤ offset → offset < end → IsInNoField Extab offset object.relocs
in_no_field object table end offset around low high =
    let N : List Reloc → Type 0 = NotIn offset in
    from_kept Extab offset object.relocs
    (subst N (sym around.split_there)
    (not_in_both offset around.front around.back (not_below offset 0 around.front table around.before low) (not_above offset end around.back around.last around.after_it high)))

-- ---- the bytes of the words

words_length : (given : List ℕ) → length (flat_map word_bytes given) ≡ 4 * length given
words_length [] = refl
words_length (word ∷ given) =
    let rest = words_length given in
    let four : length (word_bytes word) ≡ 4 = refl in
    omega (arith, rest, four, length-append (word_bytes word) (flat_map word_bytes given))

-- bytes that are alike from a place on have the same part there
same_part : (n at : ℕ) (xs ys : List ℕ) → length xs ≡ length ys → at + n ≤ length ys → ((k : ℕ) → at ≤ k → k < at + n → get_or xs k 0 ≡ get_or ys k 0) → take n (drop at xs) ≡ take n (drop at ys)
same_part n at xs ys e room h =
    let one : length (take n (drop at xs)) ≡ n = length-take-le n (drop at xs) (omega (arith, length-drop at xs, e, room)) in
    let two : length (take n (drop at ys)) ≡ n = length-take-le n (drop at ys) (omega (arith, length-drop at ys, room)) in
    same_number_lists (take n (drop at xs)) (take n (drop at ys)) (one ∙ sym two)
    (λ k inside.
    let low : k < n = omega (arith, one, inside) in
    get_or-take n (drop at xs) k 0 low ∙ get_or-drop at xs k 0 ∙ h (at + k) (omega arith) (omega (arith, low)) ∙ sym (get_or-drop at ys k 0) ∙ sym (get_or-take n (drop at ys) k 0 low))

table_room : (table n : ℕ) (bytes front rest : List ℕ) → drop table bytes ≡ front ++ rest → length front ≡ n → 0 < n → table + n ≤ length bytes
table_room table n bytes front rest e f h = omega (arith, length-drop table bytes, ap length e, length-append front rest, f, h)

-- the part of the words, in bytes that are alike there
some_there : (table n : ℕ) (given filled bytes rest : List ℕ) → n ≡ 4 * length given → 0 < n → drop table bytes ≡ flat_map word_bytes given ++ rest → length filled ≡ length bytes
    → ((k : ℕ) → table ≤ k → k < table + n → get_or filled k 0 ≡ get_or bytes k 0) → drop table filled ≡ flat_map word_bytes given ++ drop (table + n) filled
some_there table n given filled bytes rest is some e len alike =
    let size : length (flat_map word_bytes given) ≡ n = words_length given ∙ sym is in
    let room = table_room table n bytes (flat_map word_bytes given) rest e size some in
    sym (take-append-drop n (drop table filled))
    ∙ ap (λ l. l ++ drop n (drop table filled))
    (same_part n table filled bytes len room alike
    ∙ ap (take n) e
    ∙ ap (λ m. take m (flat_map word_bytes given ++ rest)) (sym size)
    ∙ take-append_seam (flat_map word_bytes given) rest)
    ∙ ap (λ l. flat_map word_bytes given ++ l) (drop-drop n table filled)

words_there : (table : ℕ) (given filled bytes rest : List ℕ) → drop table bytes ≡ flat_map word_bytes given ++ rest → length filled ≡ length bytes
    → ((k : ℕ) → table ≤ k → k < table + 4 * length given → get_or filled k 0 ≡ get_or bytes k 0)
    → drop table filled ≡ flat_map word_bytes given ++ drop (table + 4 * length given) filled
words_there table [] filled bytes rest e len alike = ap (λ n. drop n filled) (none table)
  where
    none : (n : ℕ) → n ≡ n + 4 * 0
    none n = omega arith
words_there table (word ∷ given) filled bytes rest e len alike =
    some_there table (4 * length (word ∷ given)) (word ∷ given) filled bytes rest refl (some (length given)) e len alike
  where
    some : (n : ℕ) → 0 < 4 * length (word ∷ given)
    some n = omega arith

-- a part that stands in bytes, from an offset of it on
part_there : (address start offset : ℕ) (part bytes : List ℕ) → (s : StandsAt address part start bytes) → offset ≤ length part
    → drop (address + offset - start) bytes ≡ drop offset part ++ s.after
part_there address start offset part bytes s h =
    let place : address + offset - start ≡ length s.before + offset = omega (arith, s.place) in
    ap (λ b. drop (address + offset - start) b) (s.split ∙ append_assoc s.before part s.after)
    ∙ ap (λ n. drop n (s.before ++ (part ++ s.after))) place
    ∙ sym (drop-drop offset (length s.before) (s.before ++ (part ++ s.after)))
    ∙ ap (drop offset) (drop-append_seam s.before (part ++ s.after))
    ∙ drop-append-le offset part s.after h

first_found : (a : ℕ) (s : Segment) (more : List Segment) → holds_byte a s ≡ true → bytes_at (s ∷ more) a ≡ Some (drop (a - s.start) s.bytes)
first_found a s more h = ap (λ b. option_map (λ (g : Segment). drop (a - g.start) g.bytes) (cond b (Some s) (find (holds_byte a) more))) h

-- ---- the law

table_lies : (object : Object) (given : List ℕ) (w : EntryWords) (table other : ℕ) → w ≡ words.Table given → table ≡ other → LiesIn object (entry_for w table) → other + 4 ≤ length object.extab
table_lies object given w table other e f h =
    let P : EntryWords → Type 0 = λ x. LiesIn object (entry_for x table) in
    let T : ℕ → Type 0 = λ n. n + 4 ≤ length object.extab in
    subst T f (subst P e h).1

table_words : (f : Function) (object : Object) (given : List ℕ) (w : EntryWords) (table other : ℕ) → w ≡ words.Table given → table ≡ other → TableStands w f object table → TableStands (words.Table given) f object other
table_words f object given w table other e t h =
    let P : EntryWords → Type 0 = λ x. TableStands x f object table in
    let T : ℕ → Type 0 = λ n. TableStands (words.Table given) f object n in
    subst T t (subst P e h)

inside_end : (at table len end : ℕ) → table + 4 ≤ len → at + len ≤ end → at + table + 4 ≤ end
inside_end at table len end h k = omega (arith, h, k)

above_start : (at table : ℕ) → CODE_START ≤ at → CODE_START ≤ at + table
above_start at table h = omega (arith, h)

inside_part : (table len filled : ℕ) → table + 4 ≤ len → filled ≡ len → table ≤ filled
inside_part table len filled h e = omega (arith, h, e)

pub law_of_tables : TablesAreThere
law_of_tables objects name parts f there given all linked_to words_given =
    let image = image_read objects name parts all linked_to in
    let own = in_image objects f there (words.Table given) all words_given in
    let placed = there.placed in
    let object = placed.object in
    let table = next_multiple (walk_over (source_of f) f.before).at.sizes.extab 4 in
    let end = (layout_of objects).code_end in
    let part = part_in Extab (fill_object (place_objects objects) placed) in
    let S : PlacedObject → Type 0 = λ p. StandsAt p.at.extab (part_in Extab (fill_object (place_objects objects) p)) CODE_START (linked_code objects) in
    let stands = all_mid S there.front placed there.back (subst (All S) there.split (law_of_code objects).2) in
    let room = table_lies object given own.has.words own.has.table table own.same own.has.table_place own.lies.second in
    let size : length part ≡ length object.extab = extab_sizes (place_objects objects) placed in
    let around = fields_around f given object there.unbounded there.few there.accepted words_given in
    let words_stand = table_words f object given own.has.words own.has.table table own.same own.has.table_place own.has.stands in
    let holds = byte_there end (table_at f placed) image.first image.holds (above_start placed.at.extab table own.stands.extab_from) (inside_end placed.at.extab table (length object.extab) end room own.stands.extab_to) in
    record {
      after = stands.after;
      bytes =
          ap (λ l. bytes_at l (table_at f placed)) image.segments
          ∙ first_found (table_at f placed) image.first image.more holds
          ∙ ap (λ n. Some (drop (table_at f placed - n) image.first.bytes)) image.holds.start
          ∙ ap (λ b. Some (drop (table_at f placed - CODE_START) b)) image.bytes
          ∙ ap (λ b. Some b) (part_there placed.at.extab CODE_START table part (linked_code objects) stands (inside_part table (length object.extab) (length part) room size)
          ∙ ap (λ b. b ++ stands.after) (words_there table given part object.extab _ words_stand size
          (λ k low high. law_of_other_bytes (meaning_of (place_objects objects) placed) Extab placed.at.extab object.extab object.relocs k
          (in_no_field object table (table + 4 * length given) k around low high))));
    }
