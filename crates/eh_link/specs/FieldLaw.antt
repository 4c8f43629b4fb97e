-- The bytes of a section after relocation: a byte in no field is the object's, and a field that overlaps no other holds
-- what its relocation writes into the object's bytes (docs/rules/linking.md, "Relocations"; IHI 0044).
use Rattle.std.specs.Prelude.{◌≡◌, ℕ, ◌+◌, ◌<◌, ◌≤◌, true, List, [], ◌∷◌, ◌++◌, slice_index, Option}
use Rattle.asm_relocatable.specs.declared.place.Section.{Section}
use Rattle.asm_relocatable.specs.Sections.{same_section}
use Rattle.asm_relocatable.specs.declared.object.Reloc.{Reloc}
use Rattle.asm_relocatable.specs.Relocations.{field_size}
use Rattle.eh_link.specs.declared.names.Meaning.{Meaning}
use Rattle.eh_link.specs.Fields.{change_of, apply_change, fill_fields}

-- the byte at an offset of a section is in the field of a relocation
pub record IsInField (section : Section) (offset : ℕ) (reloc : Reloc) : Type 0 where
  pub here : same_section reloc.section section ≡ true
  pub from : reloc.offset ≤ offset
  pub below : offset < reloc.offset + field_size reloc

-- in the field of none
abbrev pub IsInNoField : Section → ℕ → List Reloc → Type 0
IsInNoField section offset [] = Unit {0}
IsInNoField section offset (reloc ∷ more) = (IsInField section offset reloc → ⊥) × IsInNoField section offset more

-- the field of a relocation overlaps none of these others
abbrev pub StandsAlone : Section → Reloc → List Reloc → Type 0
StandsAlone section reloc others = (offset : ℕ) → IsInField section offset reloc → IsInNoField section offset others

-- a byte in no field stays
abbrev pub OtherBytesStay : Type 0
OtherBytesStay =
    (means : List ℕ → Option Meaning) (section : Section) (start : ℕ) (bytes : List ℕ) (relocs : List Reloc) (offset : ℕ)
    → IsInNoField section offset relocs → slice_index (fill_fields means section start bytes relocs) offset ≡ slice_index bytes offset

-- a field that overlaps no other holds what its relocation alone writes into these bytes
abbrev pub FieldsHold : Type 0
FieldsHold =
    (means : List ℕ → Option Meaning) (section : Section) (start : ℕ) (bytes : List ℕ) (before : List Reloc) (reloc : Reloc) (after : List Reloc) (offset : ℕ)
    → StandsAlone section reloc (before ++ after) → IsInField section offset reloc
    → slice_index (fill_fields means section start bytes (before ++ reloc ∷ after)) offset
    ≡ slice_index (apply_change (change_of means section start bytes reloc) reloc.offset bytes) offset
