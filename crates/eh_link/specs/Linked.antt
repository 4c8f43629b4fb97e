-- The parts of the image of objects, or the first refusal in their order (docs/rules/linking.md).
use Rattle.std.specs.Prelude.{ℕ, ◌-◌, ◌%◌, ◌==◌, not, Bool, true, false, if◌then◌else◌, List, [], ◌∷◌, ◌++◌, length, map, Option, Some, None, Result, Ok, Err}
use Rattle.std.specs.Option.{option_map_or}
use Rattle.asm_relocatable.specs.declared.object.Object.{Object}
use Rattle.eh_word.specs.Bytes.{zeros, gap}
use Rattle.elf_write.specs.declared.parts.ImageParts.{ImageParts}
use Rattle.elf_write.specs.declared.parts.OwnSegment.{OwnSegment}
use Rattle.eh_link.specs.declared.fault.LinkFault.{LinkFault}
use Rattle.eh_link.specs.declared.fault.LinkFault.TheVariants.{Duplicate, Undefined, NoEntry, TooLarge, RelocationRange}
use Rattle.eh_link.specs.declared.places.ImageLayout.{ImageLayout}
use Rattle.eh_link.specs.declared.places.TheConstants.{CODE_START}
use Rattle.eh_link.specs.declared.fill.FilledSections.{FilledSections}
use Rattle.eh_link.specs.Placed.{PlacedObject}
use Rattle.eh_link.specs.Layout.{layout_of, code_size, data_size, is_too_large, place_objects}
use Rattle.eh_link.specs.Symbols.{duplicate_of, first_undefined, has_entry, is_entry, first_in, symbols_of}
use Rattle.asm_relocatable.specs.declared.place.Section.TheVariants.{Text, Rodata, Extab, Init}
use Rattle.eh_link.specs.Fields.{fill_object, part_in, lowest_unreachable}
use Rattle.eh_link.specs.Index.{index_of}

-- ---- the segments

-- parts after some bytes, each at the next multiple of 4, with zeros in between
abbrev pub join_aligned : List ℕ → List (List ℕ) → List ℕ
join_aligned so_far [] = so_far
join_aligned so_far (part ∷ more) = join_aligned (so_far ++ zeros (gap (length so_far) 4) ++ part) more

-- the texts, rodata and exception tables, then the index
abbrev pub code_bytes : List FilledSections → List ℕ → List ℕ
code_bytes all index = join_aligned [] (map (part_in Text) all ++ map (part_in Rodata) all ++ map (part_in Extab) all ++ index ∷ [])

abbrev pub data_bytes : List FilledSections → List ℕ
data_bytes all = join_aligned [] (map (part_in Init) all)

abbrev pub code_segment : ImageLayout → List ℕ → OwnSegment
code_segment layout bytes = record { start = CODE_START; bytes = bytes; size = code_size layout; write = false; exec = true }

abbrev pub data_segment : ImageLayout → List ℕ → OwnSegment
data_segment layout bytes = record { start = layout.data_start; bytes = bytes; size = data_size layout; write = true; exec = false }

-- the second only where it has memory
abbrev pub segments_of : ImageLayout → List FilledSections → List ℕ → List OwnSegment
segments_of layout all index =
    code_segment layout (code_bytes all index)
    ∷ (if data_size layout == 0 then [] else data_segment layout (data_bytes all) ∷ [])

-- ---- the image

-- the entry is a function's start, so bit 0 is clear
abbrev pub entry_of : List ℕ → List PlacedObject → ℕ
entry_of name all = option_map_or (λ meaning. meaning.address - meaning.address % 2) (first_in (is_entry name) all) 0

abbrev pub parts_at : ImageLayout → List PlacedObject → List ℕ → ImageParts
parts_at layout all entry = record {
  entry = entry_of entry all;
  segments = segments_of layout (map (fill_object all) all) (index_of layout.text_end layout.index_start all);
  symbols = symbols_of layout all;
  index = (layout.index_start, layout.code_end - layout.index_start);
}

unfoldable pub parts_of : List Object → List ℕ → ImageParts
parts_of objects entry = parts_at (layout_of objects) (place_objects objects) entry

-- ---- the refusals

-- the refusal for a value if there is one, else what follows
abbrev pub unless : {A : Type 0} → Option A → (A → LinkFault) → Result ImageParts LinkFault → Result ImageParts LinkFault
unless None fault later = later
unless (Some value) fault later = Err (fault value)

abbrev pub unless_true : Bool → LinkFault → Result ImageParts LinkFault → Result ImageParts LinkFault
unless_true holds fault later = if holds then Err fault else later

-- Duplicate, else Undefined, if either holds of the names; else what follows
abbrev pub unless_misnamed : List Object → Result ImageParts LinkFault → Result ImageParts LinkFault
unless_misnamed objects later = unless (duplicate_of objects) Duplicate (unless (first_undefined objects objects) Undefined later)

unfoldable pub link_result : List Object → List ℕ → Result ImageParts LinkFault
link_result objects entry =
    unless_misnamed objects
    (unless_true (not (has_entry entry objects)) NoEntry
    (unless_true (is_too_large (layout_of objects)) TooLarge
    (unless (lowest_unreachable (place_objects objects) (place_objects objects)) RelocationRange
    (Ok (parts_of objects entry)))))
