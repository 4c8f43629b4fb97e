-- The image of parts, in terms of the parts, and the law that the file written for them gives that image.
use Rattle.std.specs.Prelude.{ℕ, ◌≡◌, ◌≢◌, ◌+◌, ◌-◌, ◌%◌, ◌^◌, ◌==◌, ◌<◌, not, ◌&&◌, nat_le, Bool, false, if◌then◌else◌, List, [], ◌∷◌, length, filter, fold, find, take, drop, Option, Some, None, Ok}
use Rattle.std.specs.Ordering.{nat_cmp}
use Rattle.std.specs.BTreeMap.{insert_entry}
use Rattle.std.specs.Map.{values_of}
use Rattle.elf_image.specs.Segments.{Segment}
use Rattle.elf_image.specs.Symbols.{Symbol}
use Rattle.elf_image.specs.Functions.{functions_of}
use Rattle.elf_image.specs.Marks.{marks_of}
use Rattle.elf_image.specs.Image.{Image, image_of, named_addresses}
use Rattle.elf_write.specs.Layout.{has_index, table_of, layout_of, is_too_long, write_result}
use Rattle.elf_write.specs.declared.parts.OwnSegment.{OwnSegment}
use Rattle.elf_write.specs.declared.parts.OwnSymbol.{OwnSymbol}
use Rattle.elf_write.specs.declared.parts.ImageParts.{ImageParts}

-- ---- the segments

abbrev pub own_segment : OwnSegment → Segment
own_segment s = record { start = s.start; bytes = s.bytes; size = s.size; write = s.write; exec = s.exec }

abbrev pub has_memory : OwnSegment → Bool
has_memory s = not (s.size == 0)

abbrev pub with_segment : List (ℕ × Segment) → OwnSegment → List (ℕ × Segment)
with_segment entries s = insert_entry nat_cmp entries s.start (own_segment s)

-- the segments that have memory, in rising order of their starts
unfoldable pub segments_of_parts : List OwnSegment → List Segment
segments_of_parts segments = values_of (fold with_segment [] (filter has_memory segments))

-- ---- the exception index

-- a read-only segment whose bytes contain the range, at a multiple of 4
abbrev pub holds_range : ℕ → ℕ → Segment → Bool
holds_range start size s = not s.write && nat_le s.start start && nat_le (start + size) (s.start + length s.bytes) && start % 4 == 0

abbrev pub range_in : ℕ → ℕ → Option Segment → List ℕ
range_in start size None = []
range_in start size (Some s) = take size (drop (start - s.start) s.bytes)

-- the address and the bytes of the index; 0 and none without one
unfoldable pub index_of_parts : ImageParts → List Segment → ℕ × List ℕ
index_of_parts parts segments =
    if has_index parts then (parts.index.0, range_in parts.index.0 parts.index.1 (find (holds_range parts.index.0 parts.index.1) segments)) else (0, [])

-- ---- the symbols, after the null symbol of every table

abbrev pub null_symbol : Symbol
null_symbol = record { name = []; value = 0; size = 0; info = 0; section = 0 }

abbrev pub symbols_of_parts : ImageParts → List Symbol
symbols_of_parts parts = null_symbol ∷ table_of parts

-- ---- the image

-- the entry without bit 0; functions, marks and names come from the symbols of the parts and the segments
unfoldable pub image_of_parts : ImageParts → Image
image_of_parts parts = record {
  entry = parts.entry - parts.entry % 2;
  segments = segments_of_parts parts.segments;
  functions = functions_of (segments_of_parts parts.segments) (symbols_of_parts parts);
  marks = marks_of (symbols_of_parts parts);
  symbols = named_addresses (segments_of_parts parts.segments) (symbols_of_parts parts);
  index_start = (index_of_parts parts (segments_of_parts parts.segments)).0;
  index_bytes = (index_of_parts parts (segments_of_parts parts.segments)).1;
}

-- ---- the law

abbrev pub IsWord : ℕ → Type 0
IsWord n = n < 2 ^ 32

abbrev pub SegmentsFit : List OwnSegment → Type 0
SegmentsFit [] = Unit {0}
SegmentsFit (s ∷ more) = IsWord s.start × IsWord s.size × SegmentsFit more

abbrev pub HasNoZero : List ℕ → Type 0
HasNoZero [] = Unit {0}
HasNoZero (b ∷ more) = (b ≢ 0) × HasNoZero more

-- names without a zero byte, and numbers of 32 bits
abbrev pub SymbolsFit : List OwnSymbol → Type 0
SymbolsFit [] = Unit {0}
SymbolsFit (s ∷ more) = HasNoZero s.name × IsWord s.value × IsWord s.size × SymbolsFit more

-- the numbers fit 32 bits, as in Rust they do, and no name contains a zero byte
pub record AreParts (parts : ImageParts) : Type 0 where
  pub entry : IsWord parts.entry
  pub segments : SegmentsFit parts.segments
  pub symbols : SymbolsFit parts.symbols
  pub index_start : IsWord parts.index.0
  pub index_size : IsWord parts.index.1

-- if a file is written for the parts, it gives their image
abbrev pub FilesMeanTheirParts : Type 0
FilesMeanTheirParts = (parts : ImageParts) (image : Image) → AreParts parts → is_too_long parts ≡ false → image_of (layout_of parts) ≡ Ok image → image ≡ image_of_parts parts

-- reading what is written for the parts gives their image
abbrev pub ReadsBack : Type 0
ReadsBack = (parts : ImageParts) (bytes : List ℕ) → AreParts parts → write_result parts ≡ Ok bytes → image_of bytes ≡ Ok (image_of_parts parts)
