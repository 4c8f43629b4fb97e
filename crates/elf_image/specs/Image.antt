-- What the bytes of an ELF file stand for.
use Rattle.std.specs.Prelude.{◌≡◌, ◌≢◌, ◌⊎◌, true, false, All, Contains, ℕ, ◌+◌, ◌-◌, ◌%◌, ◌==◌, not, ◌&&◌, ◌||◌, ◌≤◌, nat_le, nat_lt, nat_eq, Bool, List, [], ◌∷◌, length, map, filter, find, drop, sum_by, Option, Some, None, option_map, Result, Ok, Err, codes, min, if◌then◌else◌}
use Rattle.std.specs.List.{list_any, starts_with, position_from}
use Rattle.std.specs.List.Sorted.{IsStrictlySortedBy}
use Rattle.std.specs.Ordering.{nat_cmp}
use Rattle.std.specs.Map.{keys_of}
use Rattle.byteorder.specs.Endian.{little_number}
use Rattle.eh_word.specs.Names.{same_bytes}
use Rattle.elf_image.specs.Format.{first_of, fault_when, part, entry_field, program_headers, section_headers}
use Rattle.elf_image.specs.Header.{header_refusal, table_refusal}
use Rattle.elf_image.specs.Segments.{Segment, holds, segment_end, is_load, segment_refusal, segments_of, RiseFrom}
use Rattle.elf_image.specs.Index.{is_index, index_refusal, index_of}
use Rattle.elf_image.specs.Symbols.{Symbol, tables_of, tables_refusal, symbol_count, symbols_of}
use Rattle.elf_image.specs.Functions.{Function, segment_at, function_of_symbol, functions_of, is_inside, FunctionsFrom}
use Rattle.elf_image.specs.Marks.{marks_of, is_code_by_marks, next_mark}
use Rattle.elf_image.specs.declared.limits.TheConstants.{MEMORY_LIMIT, SEGMENT_LIMIT, SYMBOL_LIMIT, FUNCTION_LIMIT}
use Rattle.elf_image.specs.declared.symbol.TheConstants.{SHN_UNDEF}
use Rattle.elf_image.specs.declared.fault.ImageFault.{ImageFault}
use Rattle.elf_image.specs.declared.fault.ImageFault.TheVariants.{TooLarge, Entry}
use Rattle.elf_image.specs.declared.format.ProgramHeader.{ProgramHeader}
use Rattle.elf_image.specs.declared.format.SectionHeader.{SectionHeader}

-- a name and the address that it stands for
pub record NamedAddress : Type 0 where
  pub name : List ℕ
  pub address : ℕ

pub record Image : Type 0 where
  -- the first instruction's address
  pub entry : ℕ
  -- in rising order of their starts
  pub segments : List Segment
  -- in rising order of their starts
  pub functions : List Function
  -- addresses in rising order, each with whether code begins there
  pub marks : List (ℕ × Bool)
  -- the defined symbols in the order of the table
  pub symbols : List NamedAddress
  pub index_start : ℕ
  pub index_bytes : List ℕ

-- ---- the symbols by name

abbrev pub is_defined : Symbol → Bool
is_defined s = not (s.section == SHN_UNDEF)

abbrev pub address_of : Symbol → Option Function → ℕ
address_of s None = s.value
address_of s (Some f) = f.start

-- a symbol's value; for a function bit 0 is clear
unfoldable pub named_address : List Segment → Symbol → NamedAddress
named_address segments s = record { name = s.name; address = address_of s (function_of_symbol segments s) }

unfoldable pub named_addresses : List Segment → List Symbol → List NamedAddress
named_addresses segments symbols = map (λ s. named_address segments s) (filter is_defined symbols)

-- ---- limits, and the entry

unfoldable pub size_refusal : List Segment → ℕ → Option ImageFault
size_refusal segments symbols = fault_when (nat_lt MEMORY_LIMIT (sum_by (λ s. s.size) segments) || nat_lt SEGMENT_LIMIT (length segments) || nat_lt SYMBOL_LIMIT symbols) TooLarge

unfoldable pub count_refusal : List Function → Option ImageFault
count_refusal functions = fault_when (nat_lt FUNCTION_LIMIT (length functions)) TooLarge

-- bit 0 of the entry field must be set, and a function must begin at the address without it
unfoldable pub entry_refusal : ℕ → List Function → Option ImageFault
entry_refusal field functions = fault_when (not (field % 2 == 1 && list_any (λ f. f.start == field - 1) functions)) Entry

-- what is refused of the functions
abbrev pub build_refusal : ℕ → List Function → Option ImageFault
build_refusal field functions = first_of (count_refusal functions ∷ entry_refusal field functions ∷ [])

-- ---- the parts of a file

abbrev pub file_loads : List ℕ → List ProgramHeader
file_loads bytes = filter is_load (program_headers bytes)

abbrev pub file_indexes : List ℕ → List ProgramHeader
file_indexes bytes = filter is_index (program_headers bytes)

abbrev pub file_segments : List ℕ → List Segment
file_segments bytes = segments_of bytes (file_loads bytes)

abbrev pub file_tables : List ℕ → Option (SectionHeader × SectionHeader)
file_tables bytes = tables_of (section_headers bytes)

abbrev pub table_in : List ℕ → Option (SectionHeader × SectionHeader) → List ℕ
table_in bytes None = []
table_in bytes (Some tables) = part bytes tables.0.offset tables.0.size

abbrev pub strings_in : List ℕ → Option (SectionHeader × SectionHeader) → List ℕ
strings_in bytes None = []
strings_in bytes (Some tables) = part bytes tables.1.offset tables.1.size

abbrev pub file_table : List ℕ → List ℕ
file_table bytes = table_in bytes (file_tables bytes)

abbrev pub file_symbols : List ℕ → List Symbol
file_symbols bytes = symbols_of (file_table bytes) (strings_in bytes (file_tables bytes))

abbrev pub file_functions : List ℕ → List Function
file_functions bytes = functions_of (file_segments bytes) (file_symbols bytes)

-- ---- the image

unfoldable pub image_with : ℕ → List Segment → ℕ × List ℕ → List Symbol → Image
image_with field segments index symbols = record {
  entry = field - 1;
  segments = segments;
  functions = functions_of segments symbols;
  marks = marks_of symbols;
  symbols = named_addresses segments symbols;
  index_start = index.0;
  index_bytes = index.1;
}

-- the first refusal that holds
unfoldable pub refusal_of : List ℕ → Option ImageFault
refusal_of bytes = first_of (
    header_refusal bytes
    ∷ table_refusal bytes
    ∷ segment_refusal bytes (file_loads bytes)
    ∷ index_refusal (file_indexes bytes) (file_segments bytes)
    ∷ tables_refusal bytes (file_tables bytes)
    ∷ size_refusal (file_segments bytes) (symbol_count (file_table bytes))
    ∷ count_refusal (file_functions bytes)
    ∷ entry_refusal (entry_field bytes) (file_functions bytes)
    ∷ [])

abbrev pub unless_refused : {X : Type 0} → Option ImageFault → X → Result X ImageFault
unless_refused None x = Ok x
unless_refused (Some fault) x = Err fault

-- the image that the bytes stand for, or the first refusal
unfoldable pub image_of : List ℕ → Result Image ImageFault
image_of bytes = unless_refused (refusal_of bytes)
    (image_with (entry_field bytes) (file_segments bytes) (index_of (file_indexes bytes) (file_segments bytes)) (file_symbols bytes))

-- ---- what holds of every image

-- a function: its start is even, and it lies in one read-only executable segment
pub record IsWithinCode (segments : List Segment) (f : Function) : Type 0 where
  pub even : f.start % 2 ≡ 0
  pub named : All (λ b. b ≢ 0) f.name
  pub segment : Segment
  pub holder : segment_at segments f.start ≡ Some segment
  pub exec : segment.exec ≡ true
  pub read_only : segment.write ≡ false
  pub within : f.end ≤ segment_end segment

-- the bytes are at the address, a multiple of 4, in the file bytes of one read-only segment
pub record StandsAt (segments : List Segment) (start : ℕ) (bytes : List ℕ) : Type 0 where
  pub aligned : start % 4 ≡ 0
  pub segment : Segment
  pub there : Contains segments segment
  pub read_only : segment.write ≡ false
  pub above : segment.start ≤ start
  pub below : start + length bytes ≤ segment.start + length segment.bytes
  pub same : bytes ≡ part segment.bytes (start - segment.start) (length bytes)

-- there is no index, or its bytes stand at its address
abbrev pub IndexStands : List Segment → ℕ → List ℕ → Type 0
IndexStands segments start bytes = ((start ≡ 0) × (bytes ≡ [])) ⊎ StandsAt segments start bytes

-- At most 1,024 segments with at most 1,048,576 bytes of memory, ascending below 0x30000000. At most 4,096 functions,
-- ascending, each in code, and one at the even entry. Marks ascend. The index lies in a read-only segment.
pub record IsSound (image : Image) : Type 0 where
  pub rise : RiseFrom 0 image.segments
  pub memory : sum_by (λ s. s.size) image.segments ≤ MEMORY_LIMIT
  pub count : length image.segments ≤ SEGMENT_LIMIT
  pub functions : FunctionsFrom 0 image.functions
  pub function_count : length image.functions ≤ FUNCTION_LIMIT
  pub within : All (IsWithinCode image.segments) image.functions
  pub entry_even : image.entry % 2 ≡ 0
  pub entry_begins : list_any (λ f. f.start == image.entry) image.functions ≡ true
  pub marks : IsStrictlySortedBy nat_cmp (keys_of image.marks)
  pub index : IndexStands image.segments image.index_start image.index_bytes

-- ---- what an image tells

-- the number of the segment that holds an address
abbrev pub segment_number : Image → ℕ → Option ℕ
segment_number image a = position_from (holds a) 0 image.segments

-- the number of the function that holds an address
abbrev pub function_at : Image → ℕ → Option ℕ
function_at image a = position_from (is_inside a) 0 image.functions

-- an even address in an executable segment, and the last mark at or below it, if any, says code
abbrev pub is_code_in : Image → ℕ → Bool
is_code_in image a = a % 2 == 0 && list_any (λ s. holds a s && s.exec) image.segments && is_code_by_marks image.marks a

abbrev pub run_end : List (ℕ × Bool) → ℕ → Option Segment → ℕ
run_end marks a None = a
run_end marks a (Some s) = min (segment_end s) (next_mark marks a (segment_end s))

-- the end of the stretch of code from an address on: the end of its segment or the next mark, whichever is lower; the
-- address itself if it is no code
abbrev pub code_end : Image → ℕ → ℕ
code_end image a = if is_code_in image a then run_end image.marks a (segment_at image.segments a) else a

-- the address of the first defined symbol of a name
abbrev pub symbol_in : Image → List ℕ → Option ℕ
symbol_in image name = option_map (λ n. n.address) (find (λ n. same_bytes n.name name) image.symbols)

-- the addresses of the defined symbols whose names begin with _ZTI
abbrev pub type_symbols_of : List NamedAddress → List ℕ
type_symbols_of symbols = map (λ n. n.address) (filter (λ n. starts_with nat_eq n.name (codes "_ZTI")) symbols)

-- the file bytes of a read-only segment contain all four bytes at an address
abbrev pub holds_word : ℕ → Segment → Bool
holds_word a s = not s.write && nat_le s.start a && nat_le (a - s.start + 4) (length s.bytes)

abbrev pub word_in : ℕ → Segment → ℕ
word_in a s = little_number 4 (drop (a - s.start) s.bytes)

-- the word at an address
abbrev pub word_of : Image → ℕ → Option ℕ
word_of image a = option_map (word_in a) (find (holds_word a) image.segments)
