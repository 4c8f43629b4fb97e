-- The values that the linker writes into fields (IHI 0044). In the standard's words, S is the address of the name, A
-- the addend and P the address of the field; T is 1 if the name is a function.
use Rattle.std.specs.Prelude.{ℕ, ◌+◌, ◌-◌, ◌*◌, ◌/◌, ◌%◌, ◌^◌, nat_le, min, if◌then◌else◌, List, [], ◌∷◌, ◌++◌, length, take, drop, bit_or, Option, Some, None, Result, Ok, Err, ℤ, pos, ◌+ℤ◌, ◌-ℤ◌}
use Rattle.std.specs.Int.{from_bool}
use Rattle.byteorder.specs.Endian.{little_number}
use Rattle.eh_word.specs.Words.{plus_offset}
use Rattle.thumb_isa.specs.declared.instr.Instr.TheVariants.{BCond, B, Bl}
use Rattle.thumb_encode.specs.Codes.{encode_result}
use Rattle.thumb_encode.specs.declared.code.Code.{Code}
use Rattle.thumb_encode.specs.declared.code.Code.TheVariants as code
use Rattle.thumb_isa.specs.declared.encode_fault.EncodeFault.{EncodeFault}
use Rattle.eh_codes.specs.declared.row.TheConstants.{PREL31_LIMIT}
use Rattle.eh_codes.specs.Rows.{prel31_to}
use Rattle.asm_relocatable.specs.declared.place.Section.{Section}
use Rattle.asm_relocatable.specs.declared.place.Section.TheVariants.{Text, Rodata, Extab, Init, Bss}
use Rattle.asm_relocatable.specs.declared.object.Reloc.{Reloc}
use Rattle.elf_write.specs.Layout.{word, half}
use Rattle.eh_link.specs.declared.names.Meaning.{Meaning}
use Rattle.asm_relocatable.specs.Sections.{same_section}
use Rattle.asm_relocatable.specs.Relocations.{kind_of, width}
use Rattle.asm_relocatable.specs.Fields.{bytes_at}
use Rattle.asm_relocatable.specs.declared.relocation.FieldKind.{FieldKind}
use Rattle.asm_relocatable.specs.declared.relocation.FieldKind.TheVariants.{Absolute, Relative, Prel31, Call, Jump, CondJump}
use Rattle.eh_link.specs.declared.field.Change.{Change}
use Rattle.eh_link.specs.declared.field.Change.TheVariants.{Keep, Half, Word, Unreachable}
use Rattle.eh_link.specs.declared.fill.FilledSections.{FilledSections}
use Rattle.eh_link.specs.Placed.{PlacedObject}
use Rattle.eh_link.specs.Layout.{address_in, address_at}
use Rattle.eh_link.specs.Symbols.{meaning_of}

-- ---- one field

-- (S + A) | T
abbrev pub absolute : Meaning → ℤ → ℕ
absolute meaning addend = bit_or (plus_offset meaning.address addend) (from_bool meaning.function)

-- ((S + A) | T) - P
abbrev pub relative : Meaning → ℤ → ℕ → ℕ
relative meaning addend place = (absolute meaning addend + (2 ^ 32 - place)) % 2 ^ 32

-- S + A - P, a whole number
abbrev pub distance : Meaning → ℤ → ℕ → ℤ
distance meaning addend place = (pos meaning.address +ℤ addend) -ℤ pos place

-- how many bytes it writes
abbrev pub size_of : Change → ℕ
size_of (Half _) = 2
size_of (Word _) = 4
size_of _ = 0

-- a branch is its code, where it has one
abbrev pub branch : Result Code EncodeFault → Change
branch (Ok (code.Half first)) = Half first
branch (Ok (code.Pair first second)) = Word (first + second * 2 ^ 16)
branch (Err _) = Unreachable

-- what is written into a field at a place, where these bytes stand: PREL31 keeps bit 31, and JUMP8 the condition in bits 11
-- to 8
abbrev pub filling : FieldKind → Meaning → ℤ → ℕ → List ℕ → Change
filling Absolute meaning addend place there = Word (absolute meaning addend)
filling Relative meaning addend place there = Word (relative meaning addend place)
filling Prel31 meaning addend place there = Word (prel31_to place (absolute meaning addend) + little_number 4 there / PREL31_LIMIT * PREL31_LIMIT)
filling Call meaning addend place there = branch (encode_result (Bl (distance meaning addend place)))
filling Jump meaning addend place there = branch (encode_result (B (distance meaning addend place)))
filling CondJump meaning addend place there = branch (encode_result (BCond (little_number 2 there / 2 ^ 8 % 2 ^ 4) (distance meaning addend place)))

-- nothing if the bytes end within the field
abbrev pub change_by : Option FieldKind → Option Meaning → ℤ → ℕ → List ℕ → Change
change_by (Some kind) (Some meaning) addend place there =
    if nat_le (width kind) (length there) then filling kind meaning addend place there else Keep
change_by _ _ addend place there = Keep

-- ---- the fields of a section

-- the change that a relocation makes to the bytes of a section that begins at an address
unfoldable pub change_of : (List ℕ → Option Meaning) → Section → ℕ → List ℕ → Reloc → Change
change_of means section start bytes reloc =
    if same_section reloc.section section
    then change_by (kind_of reloc.kind) (means reloc.name) reloc.addend (address_at start reloc.offset) (drop reloc.offset bytes)
    else Keep

-- bytes, overwritten by others at an offset
unfoldable pub overwrite_at : ℕ → List ℕ → List ℕ → List ℕ
overwrite_at offset new bytes = take offset bytes ++ (new ++ drop (length new) (drop offset bytes))

abbrev pub apply_change : Change → ℕ → List ℕ → List ℕ
apply_change Keep offset bytes = bytes
apply_change (Half value) offset bytes = overwrite_at offset (half value) bytes
apply_change (Word value) offset bytes = overwrite_at offset (word value) bytes
apply_change Unreachable offset bytes = bytes

-- the bytes of a section after its relocations, one after the other
abbrev pub fill_fields : (List ℕ → Option Meaning) → Section → ℕ → List ℕ → List Reloc → List ℕ
fill_fields means section start bytes [] = bytes
fill_fields means section start bytes (reloc ∷ more) =
    fill_fields means section start (apply_change (change_of means section start bytes reloc) reloc.offset bytes) more

-- the lower of two addresses, if there are any
abbrev pub lower : Option ℕ → Option ℕ → Option ℕ
lower None b = b
lower (Some a) None = Some a
lower (Some a) (Some b) = Some (min a b)

abbrev pub unreachable_at : Change → ℕ → Option ℕ
unreachable_at Unreachable place = Some place
unreachable_at _ place = None

-- the lowest address of a branch that can't be encoded
abbrev pub unreachable_in : (List ℕ → Option Meaning) → Section → ℕ → List ℕ → List Reloc → Option ℕ
unreachable_in means section start bytes [] = None
unreachable_in means section start bytes (reloc ∷ more) =
    lower (unreachable_at (change_of means section start bytes reloc) (address_at start reloc.offset))
    (unreachable_in means section start (apply_change (change_of means section start bytes reloc) reloc.offset bytes) more)

-- ---- the fields of an object

-- the part of a section
abbrev pub part_in : Section → FilledSections → List ℕ
part_in Text parts = parts.text
part_in Rodata parts = parts.rodata
part_in Extab parts = parts.extab
part_in Init parts = parts.init
part_in Bss parts = []

abbrev pub fill_section : (List ℕ → Option Meaning) → PlacedObject → Section → List ℕ
fill_section means placed section =
    fill_fields means section (address_in section placed.at) (bytes_at section placed.object) placed.object.relocs

-- an object's sections after relocation, given the meanings of names
abbrev pub fill_object_by : (List ℕ → Option Meaning) → PlacedObject → FilledSections
fill_object_by means placed = record {
  text = fill_section means placed Text;
  rodata = fill_section means placed Rodata;
  extab = fill_section means placed Extab;
  init = fill_section means placed Init;
}

abbrev pub fill_object : List PlacedObject → PlacedObject → FilledSections
fill_object all placed = fill_object_by (meaning_of all placed) placed

abbrev pub unreachable_for : (List ℕ → Option Meaning) → PlacedObject → Section → Option ℕ
unreachable_for means placed section =
    unreachable_in means section (address_in section placed.at) (bytes_at section placed.object) placed.object.relocs

abbrev pub unreachable_by : (List ℕ → Option Meaning) → PlacedObject → Option ℕ
unreachable_by means placed =
    lower (lower (unreachable_for means placed Text) (unreachable_for means placed Rodata))
    (lower (unreachable_for means placed Extab) (unreachable_for means placed Init))

-- the lowest of all
abbrev pub lowest_unreachable : List PlacedObject → List PlacedObject → Option ℕ
lowest_unreachable all [] = None
lowest_unreachable all (placed ∷ more) = lower (unreachable_by (meaning_of all placed) placed) (lowest_unreachable all more)
