-- Where everything of an image stands. The first segment begins at 0x8000 and holds the texts of the objects, then their
-- rodata, then their exception tables, then the index. The second one begins at the next multiple of 4,096 after it and
-- holds the data with given bytes, then the data that begins as zeros. Each object's part of a section, an empty one too,
-- and the index begin at the next multiple of 4 (docs/rules/linking.md, "Layout").
use Rattle.std.specs.Prelude.{ℕ, ◌+◌, ◌-◌, ◌*◌, ◌%◌, ◌^◌, ◌≤◌, Bool, nat_lt, List, [], ◌∷◌, length, sum_by}
use Rattle.asm_relocatable.specs.declared.object.Object.{Object}
use Rattle.asm_relocatable.specs.declared.place.Section.{Section}
use Rattle.asm_relocatable.specs.declared.place.Section.TheVariants.{Text, Rodata, Extab, Init, Bss}
use Rattle.eh_word.specs.Bytes.{next_multiple}
use Rattle.eh_codes.specs.declared.row.TheConstants.{ROW_SIZE}
use Rattle.asm_relocatable.specs.Fields.{bytes_at}
use Rattle.eh_link.specs.declared.places.TheConstants.{CODE_START, PAGE, MOST_MEMORY, REACH}
use Rattle.eh_link.specs.declared.places.Addresses.{Addresses}
use Rattle.eh_link.specs.declared.places.ImageLayout.{ImageLayout}
use Rattle.eh_link.specs.Placed.{PlacedObject}

-- the size in bytes of an object's section in memory
abbrev pub size_in : Section → Object → ℕ
size_in Bss object = object.bss
size_in section object = length (bytes_at section object)

abbrev pub address_in : Section → Addresses → ℕ
address_in Text at = at.text
address_in Rodata at = at.rodata
address_in Extab at = at.extab
address_in Init at = at.init
address_in Bss at = at.bss

-- the next multiple of 4
abbrev pub align_to_word : ℕ → ℕ
align_to_word at = next_multiple at 4

-- the end of all objects' parts of a section that begins at or after an address
abbrev pub end_of : Section → ℕ → List Object → ℕ
end_of section at [] = at
end_of section at (object ∷ more) = end_of section (align_to_word at + size_in section object) more

-- a row for each function of the objects, and a last one
abbrev pub index_size : List Object → ℕ
index_size objects = ROW_SIZE * (sum_by (λ object. length object.rows) objects + 1)

-- the next multiple of a page
abbrev pub page_after : ℕ → ℕ
page_after at = next_multiple at PAGE

unfoldable pub layout_of : List Object → ImageLayout
layout_of objects =
    let text_end = end_of Text CODE_START objects in
    let rodata_end = end_of Rodata text_end objects in
    let extab_end = end_of Extab rodata_end objects in
    let code_end = align_to_word extab_end + index_size objects in
    let init_end = end_of Init (page_after code_end) objects in
    record {
      text_end = text_end;
      rodata_end = rodata_end;
      extab_end = extab_end;
      index_start = align_to_word extab_end;
      code_end = code_end;
      data_start = page_after code_end;
      init_end = init_end;
      bss_end = end_of Bss init_end objects;
    }

abbrev pub code_size : ImageLayout → ℕ
code_size layout = layout.code_end - CODE_START

abbrev pub data_size : ImageLayout → ℕ
data_size layout = layout.bss_end - layout.data_start

-- the segments have more than 1,048,576 bytes of memory together
abbrev pub is_too_large : ImageLayout → Bool
is_too_large layout = nat_lt MOST_MEMORY (code_size layout + data_size layout)

-- the addresses of a layout ascend, up to one far above what the segments may take
pub record Rises (layout : ImageLayout) : Type 0 where
  pub text : CODE_START ≤ layout.text_end
  pub rodata : layout.text_end ≤ layout.rodata_end
  pub extab : layout.rodata_end ≤ layout.extab_end
  pub index : layout.extab_end ≤ layout.index_start
  pub code : layout.index_start ≤ layout.code_end
  pub start : layout.code_end ≤ layout.data_start
  pub init : layout.data_start ≤ layout.init_end
  pub bss : layout.init_end ≤ layout.bss_end
  pub reach : layout.bss_end ≤ REACH

-- ---- the objects' parts

-- the addresses from which the first part of each section is placed
abbrev pub firsts : ImageLayout → Addresses
firsts layout = record {
  text = CODE_START;
  rodata = layout.text_end;
  extab = layout.rodata_end;
  init = layout.data_start;
  bss = layout.init_end;
}

abbrev pub align_all : Addresses → Addresses
align_all at = record {
  text = align_to_word at.text;
  rodata = align_to_word at.rodata;
  extab = align_to_word at.extab;
  init = align_to_word at.init;
  bss = align_to_word at.bss;
}

-- the ends of an object's sections that begin at these addresses
abbrev pub part_ends : Addresses → Object → Addresses
part_ends at object = record {
  text = at.text + length object.text;
  rodata = at.rodata + length object.rodata;
  extab = at.extab + length object.extab;
  init = at.init + length object.init;
  bss = at.bss + object.bss;
}

-- the objects, each with the addresses of its parts
abbrev pub place_objects_from : Addresses → List Object → List PlacedObject
place_objects_from at [] = []
place_objects_from at (object ∷ more) =
    record { object = object; at = align_all at } ∷ place_objects_from (part_ends (align_all at) object) more

abbrev pub place_objects : List Object → List PlacedObject
place_objects objects = place_objects_from (firsts (layout_of objects)) objects

-- the address after so many bytes of a part
abbrev pub address_at : ℕ → ℕ → ℕ
address_at start offset = (start + offset) % 2 ^ 32
