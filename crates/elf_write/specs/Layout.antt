-- The file that is written for the parts of an image, as one joined list of bytes.
use Rattle.std.specs.Prelude.{ℕ, ◌≡◌, ◌+◌, ◌-◌, ◌*◌, ◌/◌, ◌%◌, ◌^◌, ◌==◌, not, ◌&&◌, ◌||◌, nat_le, nat_lt, Bool, true, false, if◌then◌else◌, List, [], ◌∷◌, ◌++◌, length, map, filter, Option, Some, None, unwrap_or, Result, Ok, Err, codes}
use Rattle.std.specs.List.{position_from, flat_map}
use Rattle.byteorder.specs.Endian.{little_bytes}
use Rattle.eh_word.specs.Bytes.{zeros, next_multiple}
use Rattle.elf_image.specs.Symbols.{Symbol}
use Rattle.elf_image.specs.declared.format.ProgramHeader.{ProgramHeader}
use Rattle.elf_image.specs.declared.format.TheConstants.{FILE_HEADER_SIZE, PROGRAM_HEADER_SIZE, SECTION_HEADER_SIZE, ET_EXEC, EM_ARM, PT_LOAD, PT_ARM_EXIDX, SHT_SYMTAB, SHT_STRTAB}
use Rattle.elf_image.specs.declared.symbol.TheConstants.{SYMBOL_SIZE}
use Rattle.elf_image.specs.declared.limits.TheConstants.{SEGMENT_LIMIT}
use Rattle.elf_write.specs.declared.layout.SectionRow.{SectionRow}
use Rattle.elf_write.specs.declared.layout.TheConstants.{SHT_PROGBITS, SHN_ABS, ABI_FLAGS}
use Rattle.elf_image.specs.Image.{Image, image_of}
use Rattle.elf_image.specs.declared.fault.ImageFault.{ImageFault}
use Rattle.elf_image.specs.declared.fault.ImageFault.TheVariants.{TooLarge}
use Rattle.elf_write.specs.declared.plan.Places.{Places}
use Rattle.elf_write.specs.declared.parts.OwnSegment.{OwnSegment}
use Rattle.elf_write.specs.declared.parts.OwnSymbol.{OwnSymbol}
use Rattle.elf_write.specs.declared.parts.SymbolKind.{SymbolKind}
use Rattle.elf_write.specs.declared.parts.SymbolKind.TheVariants as kind
use Rattle.elf_write.specs.declared.parts.ImageParts.{ImageParts}

unfoldable pub word : ℕ → List ℕ
word x = little_bytes 4 x

unfoldable pub half : ℕ → List ℕ
half x = little_bytes 2 x

-- the next multiple of 4
abbrev pub align_to_word : ℕ → ℕ
align_to_word n = next_multiple n 4

-- zeros up to the next multiple of 4
abbrev pub padding : ℕ → List ℕ
padding at = zeros (align_to_word at - at)

abbrev pub bit : Bool → ℕ → ℕ
bit b n = if b then n else 0

-- ---- the symbols, and their strings

abbrev pub is_mapping : SymbolKind → Bool
is_mapping kind.Function = false
is_mapping kind.Object = false
is_mapping kind.Code = true
is_mapping kind.Words = true

-- the number of the first segment that contains the value or ends at it; SHN_ABS if there is none
abbrev pub section_of : List OwnSegment → ℕ → ℕ
section_of segments value = unwrap_or (position_from (λ s. nat_le s.start value && nat_le value (s.start + s.size)) 1 segments) SHN_ABS

-- a mapping symbol is local and of no type, without a size; a function is global with bit 0 of its value set, an object is global
abbrev pub symbol_row_of : List OwnSegment → OwnSymbol → SymbolKind → Symbol
symbol_row_of segments s kind.Function = record { name = s.name; value = s.value - s.value % 2 + 1; size = s.size; info = 0x12; section = section_of segments s.value }
symbol_row_of segments s kind.Object = record { name = s.name; value = s.value; size = s.size; info = 0x11; section = section_of segments s.value }
symbol_row_of segments s kind.Code = record { name = codes "$t"; value = s.value; size = 0; info = 0; section = section_of segments s.value }
symbol_row_of segments s kind.Words = record { name = codes "$d"; value = s.value; size = 0; info = 0; section = section_of segments s.value }

abbrev pub rows_of : List OwnSegment → List OwnSymbol → List Symbol
rows_of segments symbols = map (λ s. symbol_row_of segments s s.kind) symbols

-- the mapping symbols, or the others
abbrev pub is_wanted : Bool → SymbolKind → Bool
is_wanted true k = is_mapping k
is_wanted false k = not (is_mapping k)

abbrev pub wanted_rows : Bool → List OwnSegment → List OwnSymbol → List Symbol
wanted_rows mapping segments symbols = rows_of segments (filter (λ s. is_wanted mapping s.kind) symbols)

-- the symbols in the order of the table, after the null symbol: first the mapping symbols
abbrev pub table_of : ImageParts → List Symbol
table_of parts = wanted_rows true parts.segments parts.symbols ++ wanted_rows false parts.segments parts.symbols

-- a name and a zero byte; nothing for an empty name
abbrev pub zero_terminated : List ℕ → List ℕ
zero_terminated name = if length name == 0 then [] else name ++ 0 ∷ []

abbrev pub strings_of : List Symbol → List ℕ
strings_of symbols = 0 ∷ flat_map (λ s. zero_terminated s.name) symbols

-- an empty name is at offset 0
abbrev pub name_offset : List ℕ → ℕ → ℕ
name_offset name at = if length name == 0 then 0 else at

unfoldable pub symbol_bytes : ℕ → Symbol → List ℕ
symbol_bytes at s = word (name_offset s.name at) ++ word s.value ++ word s.size ++ (s.info ∷ 0 ∷ []) ++ half s.section

-- the rows of the table, the first name at an offset
abbrev pub symbol_rows : ℕ → List Symbol → List ℕ
symbol_rows at [] = []
symbol_rows at (s ∷ more) = symbol_bytes at s ++ symbol_rows (at + length (zero_terminated s.name)) more

-- ---- the segments

-- the bytes of each at the next multiple of 4
abbrev pub contents : ℕ → List OwnSegment → List ℕ
contents at [] = []
contents at (s ∷ more) = padding at ++ s.bytes ++ contents (align_to_word at + length s.bytes) more

-- a program header: the load address is the address, the alignment is 4
unfoldable pub program_bytes : ProgramHeader → List ℕ
program_bytes h = word h.kind ++ word h.offset ++ word h.address ++ word h.address ++ word h.file_size ++ word h.memory_size ++ word h.flags ++ word 4

-- the program header of a segment whose bytes are at an offset; it is readable, and writable and executable as the
-- segment says
abbrev pub load_header : ℕ → OwnSegment → ProgramHeader
load_header at s = record {
  kind = PT_LOAD;
  offset = at;
  address = s.start;
  file_size = length s.bytes;
  memory_size = s.size;
  flags = 4 + bit s.write 2 + bit s.exec 1;
}

-- the header of the index, whose bytes stand at an offset
abbrev pub index_header : ℕ → ℕ × ℕ → ProgramHeader
index_header at index = record { kind = PT_ARM_EXIDX; offset = at; address = index.0; file_size = index.1; memory_size = index.1; flags = 4 }

abbrev pub program_rows : ℕ → List OwnSegment → List ℕ
program_rows at [] = []
program_rows at (s ∷ more) =
    program_bytes (load_header (align_to_word at) s)
    ++ program_rows (align_to_word at + length s.bytes) more

-- the file offset of a range of addresses, in the first segment whose bytes contain it all; 0 if there is none
abbrev pub file_place : ℕ → ℕ → ℕ → List OwnSegment → ℕ
file_place address size at [] = 0
file_place address size at (s ∷ more) =
    if nat_le s.start address && nat_le (address + size) (s.start + length s.bytes) then align_to_word at + (address - s.start)
    else file_place address size (align_to_word at + length s.bytes) more

abbrev pub has_index : ImageParts → Bool
has_index parts = not (parts.index.1 == 0)

abbrev pub index_row : ℕ → ImageParts → List ℕ
index_row at parts =
    if has_index parts then program_bytes (index_header (file_place parts.index.0 parts.index.1 at parts.segments) parts.index) else []

abbrev pub program_total : ImageParts → ℕ
program_total parts = length parts.segments + bit (has_index parts) 1

-- the end of the program headers
abbrev pub base_of : ImageParts → ℕ
base_of parts = FILE_HEADER_SIZE + PROGRAM_HEADER_SIZE * program_total parts

-- ---- the sections

abbrev pub digit : ℕ → List ℕ
digit n = (48 + n % 10) ∷ []

-- a number below 10,000 in decimal digits
unfoldable pub decimal : ℕ → List ℕ
decimal n =
    if nat_lt n 10 then digit n
    else (if nat_lt n 100 then digit (n / 10) ++ digit n
    else (if nat_lt n 1000 then digit (n / 100) ++ digit (n / 10) ++ digit n
    else digit (n / 1000) ++ digit (n / 100) ++ digit (n / 10) ++ digit n))

unfoldable pub segment_name : ℕ → List ℕ
segment_name i = codes ".seg" ++ decimal i ++ 0 ∷ []

abbrev pub segment_names : ℕ → List OwnSegment → List ℕ
segment_names i [] = []
segment_names i (s ∷ more) = segment_name i ++ segment_names (i + 1) more

unfoldable pub last_names : List ℕ
last_names = codes ".symtab" ++ 0 ∷ [] ++ codes ".strtab" ++ 0 ∷ [] ++ codes ".shstrtab" ++ 0 ∷ []

abbrev pub section_names : List OwnSegment → List ℕ
section_names segments = 0 ∷ segment_names 0 segments ++ last_names

-- a section header, whose alignment is 4
unfoldable pub section_bytes : SectionRow → List ℕ
section_bytes s =
    word s.name ++ word s.kind ++ word s.flags ++ word s.address ++ word s.offset ++ word s.size ++ word s.link ++ word s.info ++ word 4 ++ word s.entry_size

-- the section header of a segment whose bytes are at an offset: it takes memory (flag 2), and is writable (1) and
-- executable (4) as the segment says
abbrev pub segment_row : ℕ → ℕ → OwnSegment → SectionRow
segment_row name at s = record {
  name = name;
  kind = SHT_PROGBITS;
  flags = 2 + bit s.write 1 + bit s.exec 4;
  address = s.start;
  offset = at;
  size = length s.bytes;
  link = 0;
  info = 0;
  entry_size = 0;
}

-- a section of strings
abbrev pub strings_row : ℕ → ℕ → ℕ → SectionRow
strings_row name at size = record { name = name; kind = SHT_STRTAB; flags = 0; address = 0; offset = at; size = size; link = 0; info = 0; entry_size = 0 }

-- the section of the symbol table
abbrev pub symbols_row : ℕ → ℕ → ℕ → ℕ → ℕ → SectionRow
symbols_row name at size link locals = record {
  name = name;
  kind = SHT_SYMTAB;
  flags = 0;
  address = 0;
  offset = at;
  size = size;
  link = link;
  info = locals;
  entry_size = SYMBOL_SIZE;
}

-- the section headers of the segments, given the number of the first, the offset of its name, and where its bytes may
-- begin
abbrev pub section_rows : ℕ → ℕ → ℕ → List OwnSegment → List ℕ
section_rows i name at [] = []
section_rows i name at (s ∷ more) =
    section_bytes (segment_row name (align_to_word at) s)
    ++ section_rows (i + 1) (name + length (segment_name i)) (align_to_word at + length s.bytes) more

-- ---- the file

-- the pieces that the file joins
pub record Plan : Type 0 where
  pub entry : ℕ
  pub programs : List ℕ
  pub contents : List ℕ
  pub table : List ℕ
  pub locals : ℕ
  pub strings : List ℕ
  pub names : List ℕ
  pub segment_rows : List ℕ
  pub segment_total : ℕ

-- where the pieces stand
abbrev pub contents_end : Plan → ℕ
contents_end p = FILE_HEADER_SIZE + length p.programs + length p.contents

abbrev pub table_at : Plan → ℕ
table_at p = align_to_word (contents_end p)

abbrev pub strings_at : Plan → ℕ
strings_at p = table_at p + length p.table

abbrev pub names_at : Plan → ℕ
names_at p = strings_at p + length p.strings

abbrev pub names_end : Plan → ℕ
names_end p = names_at p + length p.names

abbrev pub sections_at : Plan → ℕ
sections_at p = align_to_word (names_end p)

-- the numbers say where the pieces stand
pub record ArePlaces (p : Plan) (at : Places) : Type 0 where
  pub table : at.table ≡ table_at p
  pub strings : at.strings ≡ strings_at p
  pub names : at.names ≡ names_at p
  pub sections : at.sections ≡ sections_at p

abbrev pub file_end : Plan → ℕ
file_end p = sections_at p + SECTION_HEADER_SIZE * (p.segment_total + 4)

-- the identification, and the type, the machine and the version
unfoldable pub identity : List ℕ
identity = (0x7f ∷ 0x45 ∷ 0x4c ∷ 0x46 ∷ 1 ∷ 1 ∷ 1 ∷ []) ++ zeros 9 ++ half ET_EXEC ++ half EM_ARM ++ word 1

-- the sizes and numbers of headers
unfoldable pub header_sizes : Plan → List ℕ
header_sizes p = half FILE_HEADER_SIZE ++ half PROGRAM_HEADER_SIZE ++ half (length p.programs / PROGRAM_HEADER_SIZE) ++ half SECTION_HEADER_SIZE ++ half (p.segment_total + 4) ++ half (p.segment_total + 3)

unfoldable pub file_header : Plan → List ℕ
file_header p = identity ++ word (p.entry - p.entry % 2 + 1) ++ word FILE_HEADER_SIZE ++ word (sections_at p) ++ word ABI_FLAGS ++ header_sizes p

-- the null section, those of the segments, `.symtab`, `.strtab` and `.shstrtab`, whose names are the last 26 bytes of the names
unfoldable pub sections_of : Plan → List ℕ
sections_of p =
    zeros SECTION_HEADER_SIZE ++ p.segment_rows
    ++ section_bytes (symbols_row (length p.names - 26) (table_at p) (length p.table) (p.segment_total + 2) p.locals)
    ++ section_bytes (strings_row (length p.names - 18) (strings_at p) (length p.strings))
    ++ section_bytes (strings_row (length p.names - 10) (names_at p) (length p.names))

unfoldable pub join_pieces : Plan → List ℕ
join_pieces p =
    file_header p ++ p.programs ++ p.contents ++ padding (contents_end p) ++ p.table ++ p.strings ++ p.names ++ padding (names_end p) ++ sections_of p

unfoldable pub plan_of : ImageParts → Plan
plan_of parts = record {
  entry = parts.entry;
  programs = program_rows (base_of parts) parts.segments ++ index_row (base_of parts) parts;
  contents = contents (base_of parts) parts.segments;
  table = zeros SYMBOL_SIZE ++ symbol_rows 1 (table_of parts);
  locals = 1 + length (wanted_rows true parts.segments parts.symbols);
  strings = strings_of (table_of parts);
  names = section_names parts.segments;
  segment_rows = section_rows 0 1 (base_of parts) parts.segments;
  segment_total = length parts.segments;
}

-- the file of the parts
unfoldable pub layout_of : ImageParts → List ℕ
layout_of parts = join_pieces (plan_of parts)

-- more than 1,024 segments, or a file of 2 ^ 32 bytes or more
unfoldable pub is_too_long : ImageParts → Bool
is_too_long parts = nat_lt SEGMENT_LIMIT (length parts.segments) || nat_le (2 ^ 32) (file_end (plan_of parts))

-- what a reading refuses
abbrev pub is_read : Result Image ImageFault → Option ImageFault
is_read (Ok image) = None
is_read (Err fault) = Some fault

abbrev pub bytes_if_image : List ℕ → Option ImageFault → Result (List ℕ) ImageFault
bytes_if_image bytes None = Ok bytes
bytes_if_image bytes (Some fault) = Err fault

-- what is written: the joined file, if it reads as an image
unfoldable pub write_result : ImageParts → Result (List ℕ) ImageFault
write_result parts = if is_too_long parts then Err TooLarge else bytes_if_image (layout_of parts) (is_read (image_of (layout_of parts)))
