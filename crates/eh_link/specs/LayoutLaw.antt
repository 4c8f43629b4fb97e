-- The bytes of the segments agree with the layout: each object's section is at its address, the index is after them,
-- and the sizes are those of the layout. Addresses are sums of sizes, while the bytes are the joined parts
-- (docs/rules/linking.md, "Layout").
use Rattle.std.specs.Prelude.{◌≡◌, ℕ, ◌+◌, ◌-◌, ◌==◌, if◌then◌else◌, List, [], ◌∷◌, ◌++◌, length, map, All, Ok}
use Rattle.asm_relocatable.specs.declared.place.Section.{Section}
use Rattle.asm_relocatable.specs.declared.place.Section.TheVariants.{Text, Rodata, Extab, Init}
use Rattle.asm_relocatable.specs.declared.object.Object.{Object}
use Rattle.elf_write.specs.declared.parts.ImageParts.{ImageParts}
use Rattle.eh_link.specs.declared.fill.FilledSections.{FilledSections}
use Rattle.eh_link.specs.declared.places.TheConstants.{CODE_START}
use Rattle.eh_link.specs.Layout.{address_in, layout_of, code_size, data_size, place_objects}
use Rattle.eh_link.specs.Fields.{part_in, fill_object}
use Rattle.eh_link.specs.Index.{index_of}
use Rattle.eh_link.specs.Linked.{code_bytes, data_bytes, code_segment, data_segment, link_result}

-- ---- the bytes of objects that are linked

-- all objects after relocation
abbrev pub fill_all_objects : List Object → List FilledSections
fill_all_objects objects = map (fill_object (place_objects objects)) (place_objects objects)

abbrev pub linked_index : List Object → List ℕ
linked_index objects = index_of (layout_of objects).text_end (layout_of objects).index_start (place_objects objects)

abbrev pub linked_code : List Object → List ℕ
linked_code objects = code_bytes (fill_all_objects objects) (linked_index objects)

abbrev pub linked_data : List Object → List ℕ
linked_data objects = data_bytes (fill_all_objects objects)

-- ---- the law

-- a part is at an address, in bytes that begin at another address
pub record StandsAt (address : ℕ) (part : List ℕ) (start : ℕ) (bytes : List ℕ) : Type 0 where
  pub before : List ℕ
  pub after : List ℕ
  pub split : bytes ≡ before ++ part ++ after
  pub place : address ≡ start + length before

-- each object's part of a section is at its address
abbrev pub EachStands : Section → List Object → ℕ → List ℕ → Type 0
EachStands section objects start bytes =
    All (λ placed. StandsAt (address_in section placed.at) (part_in section (fill_object (place_objects objects) placed)) start bytes) (place_objects objects)

-- the image that objects link to has these bytes in its segments, the second one only where it has memory, and names the place
-- of this index and its size
abbrev pub ImagesHaveTheseBytes : Type 0
ImagesHaveTheseBytes =
    (objects : List Object) (entry : List ℕ) (image : ImageParts)
    → link_result objects entry ≡ Ok image
    → (image.segments
    ≡ code_segment (layout_of objects) (linked_code objects)
    ∷ (if data_size (layout_of objects) == 0 then [] else data_segment (layout_of objects) (linked_data objects) ∷ []))
    × (image.index ≡ ((layout_of objects).index_start, length (linked_index objects)))

-- the size of the first segment is the number of its bytes; the second also has the zeros after them
abbrev pub SizesAreOfBytes : Type 0
SizesAreOfBytes =
    (objects : List Object)
    → (code_size (layout_of objects) ≡ length (linked_code objects))
    × (data_size (layout_of objects) ≡ length (linked_data objects) + ((layout_of objects).bss_end - (layout_of objects).init_end))

-- each object's sections in the first segment, which begins at 0x8000
abbrev pub CodeStands : Type 0
CodeStands =
    (objects : List Object)
    → EachStands Text objects CODE_START (linked_code objects)
    × EachStands Rodata objects CODE_START (linked_code objects)
    × EachStands Extab objects CODE_START (linked_code objects)

-- the index, up to the end of the segment
abbrev pub IndexStands : Type 0
IndexStands =
    (objects : List Object)
    → StandsAt (layout_of objects).index_start (linked_index objects) CODE_START (linked_code objects)
    × ((layout_of objects).code_end ≡ (layout_of objects).index_start + length (linked_index objects))

-- each object's initialized data, in the second segment
abbrev pub DataStands : Type 0
DataStands = (objects : List Object) → EachStands Init objects (layout_of objects).data_start (linked_data objects)
