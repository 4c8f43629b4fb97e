-- The parts of an ELF file of class 32, little-endian, by their places ("Tool Interface Standard, ELF"; "ELF for the Arm Architecture").
use Rattle.std.specs.Prelude.{slice_index, ℕ, ◌+◌, ◌*◌, ◌==◌, nat_lt, Bool, if◌then◌else◌, List, [], ◌∷◌, length, take, drop, map, Option, Some, None}
use Rattle.std.specs.List.{range_with_len}
use Rattle.byteorder.specs.Endian.{little_number}
use Rattle.elf_image.specs.declared.fault.ImageFault.{ImageFault}
use Rattle.elf_image.specs.declared.fault.ImageFault.TheVariants.{Truncated}
use Rattle.elf_image.specs.declared.format.FileHeader.{FileHeader}
use Rattle.elf_image.specs.declared.format.TheConstants.{PROGRAM_HEADER_SIZE, SECTION_HEADER_SIZE}
use Rattle.elf_image.specs.declared.format.ProgramHeader.{ProgramHeader}
use Rattle.elf_image.specs.declared.format.SectionHeader.{SectionHeader}

-- the number in the n bytes at an offset, the lowest byte first
abbrev pub field : ℕ → List ℕ → ℕ → ℕ
field n bytes at = little_number n (drop at bytes)

-- the bytes of a part, by its offset and size
abbrev pub part : List ℕ → ℕ → ℕ → List ℕ
part bytes at size = take size (drop at bytes)

-- the refusal of a part that the file doesn't hold whole, with the length that the file would need. A part of no bytes
-- is never missing.
abbrev pub missing : List ℕ → ℕ → ℕ → Option ImageFault
missing bytes at size = if size == 0 then None else (if nat_lt (length bytes) (at + size) then Some (Truncated (at + size)) else None)

-- the first of several refusals
abbrev pub first_of : List (Option ImageFault) → Option ImageFault
first_of [] = None
first_of (None ∷ more) = first_of more
first_of (Some fault ∷ more) = Some fault

-- a refusal where a test holds
abbrev pub fault_when : Bool → ImageFault → Option ImageFault
fault_when holds fault = if holds then Some fault else None

-- ---- the file header

-- the fields by their offsets; of the flags the top byte alone
abbrev pub file_header : List ℕ → FileHeader
file_header bytes = record {
  kind = field 2 bytes 16;
  machine = field 2 bytes 18;
  entry = field 4 bytes 24;
  program_offset = field 4 bytes 28;
  section_offset = field 4 bytes 32;
  abi_version = slice_index bytes 39;
  program_size = field 2 bytes 42;
  program_count = field 2 bytes 44;
  section_size = field 2 bytes 46;
  section_count = field 2 bytes 48;
}

abbrev pub entry_field : List ℕ → ℕ
entry_field bytes = (file_header bytes).entry

abbrev pub program_offset : List ℕ → ℕ
program_offset bytes = (file_header bytes).program_offset

abbrev pub section_offset : List ℕ → ℕ
section_offset bytes = (file_header bytes).section_offset

abbrev pub program_count : List ℕ → ℕ
program_count bytes = (file_header bytes).program_count

abbrev pub section_count : List ℕ → ℕ
section_count bytes = (file_header bytes).section_count

-- ---- the tables of headers

unfoldable pub program_header : List ℕ → ℕ → ProgramHeader
program_header bytes at = record {
  kind = field 4 bytes at;
  offset = field 4 bytes (at + 4);
  address = field 4 bytes (at + 8);
  file_size = field 4 bytes (at + 16);
  memory_size = field 4 bytes (at + 20);
  flags = field 4 bytes (at + 24);
}

unfoldable pub section_header : List ℕ → ℕ → SectionHeader
section_header bytes at = record {
  kind = field 4 bytes (at + 4);
  offset = field 4 bytes (at + 16);
  size = field 4 bytes (at + 20);
  link = field 4 bytes (at + 24);
}

abbrev pub program_headers : List ℕ → List ProgramHeader
program_headers bytes = map (λ i. program_header bytes (program_offset bytes + PROGRAM_HEADER_SIZE * i)) (range_with_len 0 (program_count bytes))

abbrev pub section_headers : List ℕ → List SectionHeader
section_headers bytes = map (λ i. section_header bytes (section_offset bytes + SECTION_HEADER_SIZE * i)) (range_with_len 0 (section_count bytes))
