-- A memory in pages: the cell of each address, and the segments that the pages hold.
use Rattle.std.specs.Prelude.{◌≡◌, ℕ, zero, suc, ◌+◌, ◌-◌, ◌*◌, ◌/◌, ◌%◌, ◌<◌, ◌≤◌, Bool, true, ◌&&◌, nat_le, List, [], ◌∷◌, ◌++◌, ◌⊎◌, length, map, replicate, slice_set, slice_index, slice_index_or, Option, Some, None, IsTrue}
use Rattle.eh_word.specs.Bytes.{zeros}
use Rattle.eh_bus.specs.Segment.{Segment, holds}
use Rattle.eh_bus.specs.Memory.{Memory, number_in}
use Rattle.eh_bus.specs.declared.map.TheConstants.{PAGE_COUNT, PAGE_SIZE, POOL_END}
use Rattle.eh_bus.specs.Map.{AreSegments}
use Rattle.eh_bus.specs.Place.{IsPlace}
use Rattle.mem_buses.specs.declared.part.SegmentInfo.{SegmentInfo}
use Rattle.mem_buses.specs.declared.part.CellRun.{CellRun}

-- Consecutive pages: for each page number the index of its page, for each page an address in it, and for each byte of
-- the pages its value and its owner, the number of the segment that contains it.
pub record Pages : Type 0 where
  pub places : List (Option ℕ)
  pub firsts : List ℕ
  pub bytes : List ℕ
  pub owners : List (Option ℕ)

unfoldable pub no_places : ℕ → List (Option ℕ)
no_places n = replicate n None

abbrev pub no_pages : Pages
no_pages = record { places = no_places PAGE_COUNT; firsts = []; bytes = []; owners = [] }

-- page numbers and indexes are inverse to each other, and each page has its bytes
pub record ArePages (p : Pages) : Type 0 where
  pub number : (n q : ℕ) → slice_index_or p.places n None ≡ Some q → (q < length p.firsts) × (slice_index p.firsts q / PAGE_SIZE ≡ n)
  pub place : (q : ℕ) → q < length p.firsts → slice_index_or p.places (slice_index p.firsts q / PAGE_SIZE) None ≡ Some q
  pub bytes : length p.bytes ≡ length p.firsts * PAGE_SIZE
  pub owners : length p.owners ≡ length p.bytes

abbrev pub cell_in : Option ℕ → ℕ → Option ℕ
cell_in None a = None
cell_in (Some q) a = Some (q * PAGE_SIZE + a % PAGE_SIZE)

-- the cell of the byte at a: its index among the bytes of all pages
abbrev pub cell_at : List (Option ℕ) → ℕ → Option ℕ
cell_at places a = cell_in (slice_index_or places (a / PAGE_SIZE) None) a

abbrev pub cell_of : Pages → ℕ → Option ℕ
cell_of p a = cell_at p.places a

abbrev pub byte_at_cell : List ℕ → Option ℕ → ℕ
byte_at_cell bytes None = 0
byte_at_cell bytes (Some i) = slice_index bytes i

abbrev pub owner_at_cell : List (Option ℕ) → Option ℕ → Option ℕ
owner_at_cell owners None = None
owner_at_cell owners (Some i) = slice_index_or owners i None

abbrev pub byte_of : Pages → ℕ → ℕ
byte_of p a = byte_at_cell p.bytes (cell_of p a)

abbrev pub owner_of : Pages → ℕ → Option ℕ
owner_of p a = owner_at_cell p.owners (cell_of p a)

-- n bytes from an address on
unfoldable pub bytes_from : (ℕ → ℕ) → ℕ → ℕ → List ℕ
bytes_from byte start zero = []
bytes_from byte start (suc n) = byte start ∷ bytes_from byte (suc start) n

abbrev pub segment_at : (ℕ → ℕ) → SegmentInfo → Segment
segment_at byte part = record { start = part.start; bytes = bytes_from byte part.start part.size; write = part.write; exec = part.exec }

abbrev pub segments_at : (ℕ → ℕ) → List SegmentInfo → List Segment
segments_at byte parts = map (segment_at byte) parts

-- all of the n bytes from a on lie in the part
abbrev pub part_holds : SegmentInfo → ℕ → ℕ → Bool
part_holds part a n = nat_le part.start a && nat_le (a - part.start + n) part.size

-- all of the n bytes from a on lie in the span
abbrev pub spans : CellRun → ℕ → ℕ → Bool
spans s a n = nat_le s.start a && nat_le (a - s.start + n) s.size

-- the addresses of a span lie in its segment, and their bytes are contiguous
pub record IsSpan (places : List (Option ℕ)) (parts : List SegmentInfo) (s : CellRun) : Type 0 where
  pub inside : s.part < length parts
  pub low : (d : SegmentInfo) → (slice_index_or parts s.part d).start ≤ s.start
  pub high : (d : SegmentInfo) → s.start + s.size ≤ (slice_index_or parts s.part d).start + (slice_index_or parts s.part d).size
  pub cell : (k : ℕ) → k < s.size → cell_at places (s.start + k) ≡ Some (s.at + k)

-- a span without closed bytes, of a writable segment
pub record IsOpen (parts : List SegmentInfo) (s : CellRun) : Type 0 where
  pub above : POOL_END ≤ s.start
  pub writes : (d : SegmentInfo) → (slice_index_or parts s.part d).write ≡ true

-- a span of an executable segment, or an empty one
pub record IsCode (parts : List SegmentInfo) (s : CellRun) : Type 0 where
  pub runs : (d : SegmentInfo) → 0 < s.size → (slice_index_or parts s.part d).exec ≡ true

-- the owner of an address is the segment that contains it
pub record AreOwned (has : ℕ → Option ℕ) (parts : List SegmentInfo) : Type 0 where
  pub part : (a i : ℕ) (d : SegmentInfo) → has a ≡ Some i → (i < length parts) × IsTrue (part_holds (slice_index_or parts i d) a 1)
  pub owner : (a i : ℕ) (d : SegmentInfo) → i < length parts → IsTrue (part_holds (slice_index_or parts i d) a 1) → has a ≡ Some i

-- each page contains an address of some segment, and bytes without an owner are 0
pub record AreUsed (p : Pages) : Type 0 where
  pub used : (q : ℕ) → q < length p.firsts → owner_of p (slice_index p.firsts q) ≡ None → ⊥
  pub blank : (a : ℕ) → owner_of p a ≡ None → byte_of p a ≡ 0

-- a page that has a byte of some segment
abbrev pub HasPage : Memory → ℕ → Type 0
HasPage m n = (a : ℕ) × (i : ℕ) × ((a / PAGE_SIZE ≡ n) × (i < length m.segments) × ((d : Segment) → IsTrue (holds (slice_index_or m.segments i d) a 1)))

-- the bytes of a page; 0 where no segment has the address
pub record IsPage (m : Memory) (n : ℕ) (bytes : List ℕ) : Type 0 where
  pub sized : length bytes ≡ PAGE_SIZE
  pub byte : (k : ℕ) → k < PAGE_SIZE → slice_index bytes k ≡ number_in 1 m.segments (n * PAGE_SIZE + k)

-- the numbers of exactly the pages that contain a byte of some segment, each once
pub record ArePageNumbers (m : Memory) (numbers : List ℕ) : Type 0 where
  pub once : (i j : ℕ) → i < length numbers → j < length numbers → slice_index numbers i ≡ slice_index numbers j → i ≡ j
  pub has : (i : ℕ) → i < length numbers → HasPage m (slice_index numbers i)
  pub every : (n : ℕ) → HasPage m n → (i : ℕ) × ((i < length numbers) × (slice_index numbers i ≡ n))

-- the n bytes from a on lie in one segment, and in one page from a cell on
pub record CanStore (n : ℕ) (p : Pages) (parts : List SegmentInfo) (a i at : ℕ) : Type 0 where
  pub inside : i < length parts
  pub covering : (d : SegmentInfo) → part_holds (slice_index_or parts i d) a n ≡ true
  pub place : IsPlace n (segments_at (byte_of p) parts) a i
  pub cell : cell_of p a ≡ Some at
  pub one_page : a % PAGE_SIZE + n ≤ PAGE_SIZE
  pub room : at + n ≤ length p.bytes

-- consistent pages that hold these segments
pub record PagesMake (p : Pages) (parts : List SegmentInfo) (segments : List Segment) : Type 0 where
  pub sound : ArePages p
  pub used : AreUsed p
  pub owned : AreOwned (owner_of p) parts
  pub mapped : AreSegments segments
  pub made : segments_at (byte_of p) parts ≡ segments

-- ---- pages that are made

-- the pages with the page of a, all zeros and with no owner
abbrev pub with_page : Pages → ℕ → Pages
with_page p a = record {
  places = slice_set p.places (a / PAGE_SIZE) (Some (length p.firsts));
  firsts = p.firsts ++ a ∷ [];
  bytes = p.bytes ++ zeros PAGE_SIZE;
  owners = p.owners ++ no_places PAGE_SIZE;
}

-- the byte at a has a cell, and nothing else has changed
pub record Ready (old new : Pages) (a at : ℕ) : Type 0 where
  pub sound : ArePages new
  pub cell : cell_of new a ≡ Some at
  pub places : length new.places ≡ length old.places
  pub byte : (b : ℕ) → byte_of new b ≡ byte_of old b
  pub owner : (b : ℕ) → owner_of new b ≡ owner_of old b
  pub firsts : (q : ℕ) → q < length new.firsts → ((q < length old.firsts) × (slice_index new.firsts q ≡ slice_index old.firsts q)) ⊎ (slice_index new.firsts q ≡ a)

-- the bytes from start on have these values, then zeros, and this owner, and nothing else has changed
pub record FillsBytes (old new : Pages) (start size : ℕ) (given : List ℕ) (i : ℕ) : Type 0 where
  pub sound : ArePages new
  pub used : AreUsed new
  pub places : length new.places ≡ length old.places
  pub byte_inside : (k : ℕ) → k < size → byte_of new (start + k) ≡ slice_index given k
  pub owner_inside : (k : ℕ) → k < size → owner_of new (start + k) ≡ Some i
  pub byte_outside : (b : ℕ) → ((b < start) ⊎ (start + size ≤ b)) → byte_of new b ≡ byte_of old b
  pub owner_outside : (b : ℕ) → ((b < start) ⊎ (start + size ≤ b)) → owner_of new b ≡ owner_of old b

-- pages that hold these segments, with an entry for every page number
pub record Lays (p : Pages) (parts : List SegmentInfo) (segments : List Segment) : Type 0 where
  pub sound : ArePages p
  pub used : AreUsed p
  pub owned : AreOwned (owner_of p) parts
  pub places : length p.places ≡ PAGE_COUNT
  pub made : segments_at (byte_of p) parts ≡ segments
