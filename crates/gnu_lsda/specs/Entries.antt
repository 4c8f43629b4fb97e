-- The entries of the generic model in an image's exception table (IHI 0038, "The generic model"; docs/rules/gnu-tables.md).
use Rattle.std.specs.Prelude.{ℕ, ◌+◌, ◌-◌, ◌/◌, ◌%◌, ◌^◌, ◌&&◌, ◌*◌, not, nat_le, nat_lt, if◌then◌else◌, List, length, take, drop, codes, Option, Some, None, option_map, option_and_then}
use Rattle.eh_word.specs.Words.{number_at, prel31_of}
use Rattle.elf_image.specs.Segments.{Segment, segment_end}
use Rattle.elf_image.specs.Functions.{segment_at}
use Rattle.elf_image.specs.Image.{Image, symbol_in}
use Rattle.eh_codes.specs.Rows.{even}
use Rattle.eh_codes.specs.declared.words.TheConstants.{COMPACT_MARK}
use Rattle.eh_codes.specs.declared.row.EntryBody.{EntryBody}
use Rattle.eh_codes.specs.declared.row.EntryBody.TheVariants.{CantUnwind, Inline, Table}
use Rattle.eh_index.specs.Rows.{entry_at, entry_count}

-- a generic entry: the file's bytes of the segment where it stands, the address of the first of them, the entry's place among them, its
-- first word, and the start and size of its function's range. A place is an offset among the bytes
pub record Form : Type 0 where
  pub bytes : List ℕ
  pub address : ℕ
  pub place : ℕ
  pub first : ℕ
  pub start : ℕ
  pub size : ℕ

-- ---- the range of a row: up to the next row's start; of the last one up to the even end of the executable segment where it begins

abbrev pub size_in : ℕ → Option Segment → ℕ
size_in start None = 0
size_in start (Some s) = if s.exec then even (segment_end s) - start else 0

abbrev pub range_size : Image → ℕ → ℕ
range_size image k =
    if nat_lt (k + 1) (entry_count image) then (entry_at image (k + 1)).start - (entry_at image k).start
    else size_in (entry_at image k).start (segment_at image.segments (entry_at image k).start)

-- ---- a row's entry is generic where bit 31 of its first word is clear

abbrev pub with_first : Segment → ℕ → ℕ → ℕ → Option ℕ → Option Form
with_first s place start size None = None
with_first s place start size (Some first) =
    if nat_lt first COMPACT_MARK
    then Some (record { bytes = s.bytes; address = s.start; place = place; first = first; start = start; size = size })
    else None

-- in a read-only segment, whose bytes of the file hold its first word
abbrev pub generic_entry_in : ℕ → ℕ → ℕ → Option Segment → Option Form
generic_entry_in at start size None = None
generic_entry_in at start size (Some s) =
    if not s.write && nat_le s.start at then with_first s (at - s.start) start size (number_at 4 s.bytes (at - s.start)) else None

abbrev pub generic_in : Image → ℕ → ℕ → EntryBody → Option Form
generic_in image start size CantUnwind = None
generic_in image start size (Inline word) = None
generic_in image start size (Table at) = generic_entry_in at start size (segment_at image.segments at)

-- the generic entry of row k; None where its entry is none
abbrev pub generic_of : Image → ℕ → Option Form
generic_of image k = generic_in image (entry_at image k).start (range_size image k) (entry_at image k).body

-- ---- what the words of an entry say

abbrev pub address_in : ℕ → ℕ → ℕ
address_in address place = (address + place) % 2 ^ 32

-- the address of the personality routine, from the entry's first word; bit 0 isn't part of it
abbrev pub personality_of : Form → ℕ
personality_of f = even (prel31_of (address_in f.address f.place) f.first)

-- the name of the personality routine of C++ in GNU's tables
abbrev pub personality_name : List ℕ
personality_name = codes "__gxx_personality_v0"

abbrev pub personality_in : Image → Option ℕ
personality_in image = symbol_in image personality_name

-- the number of further words of unwind instructions, from the top byte of the second word
abbrev pub words_after : Form → Option ℕ
words_after f = option_map (λ word. word / 2 ^ 24) (number_at 4 f.bytes (f.place + 4))

-- the bytes of the words with unwind instructions, if they are all there: the second word and the further ones
abbrev pub code_word_bytes : Form → ℕ → Option (List ℕ)
code_word_bytes f words = if nat_le (f.place + 8 + 4 * words) (length f.bytes) then Some (take (4 + 4 * words) (drop (f.place + 4) f.bytes)) else None

abbrev pub words_of : Form → Option (List ℕ)
words_of f = option_and_then (code_word_bytes f) (words_after f)
