-- The loaded segments of an image.
use Rattle.std.specs.Prelude.{ℕ, ◌+◌, ◌%◌, ◌/◌, ◌<◌, ◌≤◌, ◌==◌, not, ◌&&◌, ◌||◌, nat_lt, nat_le, Bool, false, List, [], ◌∷◌, length, map, filter, fold, Option, None}
use Rattle.std.specs.List.{list_any}
use Rattle.std.specs.Ordering.{nat_cmp}
use Rattle.std.specs.BTreeMap.{insert_entry}
use Rattle.elf_image.specs.Format.{first_of, fault_when, missing, part, program_headers}
use Rattle.elf_image.specs.declared.format.TheConstants.{PT_LOAD}
use Rattle.elf_image.specs.declared.limits.TheConstants.{ADDRESS_LIMIT}
use Rattle.elf_image.specs.declared.fault.ImageFault.{ImageFault}
use Rattle.elf_image.specs.declared.fault.ImageFault.TheVariants.{SegmentRange, SegmentOverlap}
use Rattle.elf_image.specs.declared.format.ProgramHeader.{ProgramHeader}

-- memory from an address on: bytes of the file, then zeros up to the size
pub record Segment : Type 0 where
  pub start : ℕ
  pub bytes : List ℕ
  pub size : ℕ
  pub write : Bool
  pub exec : Bool

-- the address lies in the segment
abbrev pub holds : ℕ → Segment → Bool
holds a s = nat_le s.start a && nat_lt a (s.start + s.size)

-- the first address above a segment
abbrev pub segment_end : Segment → ℕ
segment_end s = s.start + s.size

-- a header of a segment to load (PT_LOAD) that has memory
abbrev pub is_load : ProgramHeader → Bool
is_load h = h.kind == PT_LOAD && not (h.memory_size == 0)

unfoldable pub load_headers : List ℕ → List ProgramHeader
load_headers bytes = filter is_load (program_headers bytes)

-- ---- what is refused

-- the first loaded segment whose bytes the file does not hold
abbrev pub bytes_refusal : List ℕ → List ProgramHeader → Option ImageFault
bytes_refusal bytes [] = None
bytes_refusal bytes (h ∷ more) = first_of (missing bytes h.offset h.file_size ∷ bytes_refusal bytes more ∷ [])

abbrev pub memory_end : ProgramHeader → ℕ
memory_end h = h.address + h.memory_size

-- the end is above ADDRESS_LIMIT, or the file has more bytes than the memory
abbrev pub is_out_of_range : ProgramHeader → Bool
is_out_of_range h = nat_lt ADDRESS_LIMIT (memory_end h) || nat_lt h.memory_size h.file_size

-- the two share a byte of memory
abbrev pub overlap : ProgramHeader → ProgramHeader → Bool
overlap g h = nat_lt g.address (memory_end h) && nat_lt h.address (memory_end g)

-- some two share a byte of memory
abbrev pub some_overlap : List ProgramHeader → Bool
some_overlap [] = false
some_overlap (h ∷ more) = list_any (overlap h) more || some_overlap more

unfoldable pub segment_refusal : List ℕ → List ProgramHeader → Option ImageFault
segment_refusal bytes headers = first_of (
    bytes_refusal bytes headers
    ∷ fault_when (list_any is_out_of_range headers) SegmentRange
    ∷ fault_when (some_overlap headers) SegmentOverlap
    ∷ [])

-- ---- what the headers stand for

unfoldable pub segment_of : List ℕ → ProgramHeader → Segment
segment_of bytes h = record {
  start = h.address;
  bytes = part bytes h.offset h.file_size;
  size = h.memory_size;
  write = h.flags / 2 % 2 == 1;
  exec = h.flags % 2 == 1;
}

-- headers by their addresses, ascending; two have one address only if they overlap
abbrev pub by_address : List ProgramHeader → List (ℕ × ProgramHeader)
by_address headers = fold (λ entries h. insert_entry nat_cmp entries h.address h) [] headers

-- the segments in rising order of their starts
unfoldable pub segments_of : List ℕ → List ProgramHeader → List Segment
segments_of bytes headers = map (λ entry. segment_of bytes entry.1) (by_address headers)

-- ---- what holds of the segments of every image

-- they ascend from an address on, each with its bytes and at least one byte of memory, up to ADDRESS_LIMIT
abbrev pub RiseFrom : ℕ → List Segment → Type 0
RiseFrom low [] = low ≤ ADDRESS_LIMIT
RiseFrom low (s ∷ more) = (low ≤ s.start) × (0 < s.size) × (length s.bytes ≤ s.size) × RiseFrom (s.start + s.size) more
