-- The map that every bus has, and what no call changes.
use Rattle.std.specs.Prelude.{◌≡◌, ℕ, ◌+◌, ◌%◌, ◌<◌, ◌≤◌, true, false, ◌&&◌, List, [], ◌∷◌, length, slice_index_or, IsTrue, All, Some, None, if◌then◌else◌}
use Rattle.std.proofs.Common.{refl, lit<, lit≤}
use Rattle.eh_bus.specs.Segment.{Segment, AreBytes, holds}
use Rattle.eh_bus.specs.Guards.{AreGuards}
use Rattle.eh_bus.specs.Memory.{Memory, fault_in, load, fetch}
use Rattle.eh_bus.specs.declared.fault.BusFault.TheVariants.{ReadOnly}
use Rattle.eh_bus.specs.declared.map.TheConstants.{IMAGE_END, POOL_SIZE, POOL_START, STACK_END, STACK_SIZE, STACK_START}

-- a writable, not executable segment of this address and size
pub record IsData (s : Segment) (start size : ℕ) : Type 0 where
  pub starts : s.start ≡ start
  pub sized : length s.bytes ≡ size
  pub writes : s.write ≡ true
  pub no_code : s.exec ≡ false

-- no address lies in two of them
abbrev pub AreApart : List Segment → Type 0
AreApart segments =
    (a i j : ℕ) (d : Segment) → i < length segments → j < length segments
    → IsTrue (holds (slice_index_or segments i d) a 1) → IsTrue (holds (slice_index_or segments j d) a 1) → i ≡ j

-- the segments of a bus: the stack, the pool, and the image's below both
pub record AreSegments (segments : List Segment) : Type 0 where
  pub two : 2 ≤ length segments
  pub stack : (d : Segment) → IsData (slice_index_or segments 0 d) STACK_START STACK_SIZE
  pub pool : (d : Segment) → IsData (slice_index_or segments 1 d) POOL_START POOL_SIZE
  pub image :
      (i : ℕ) (d : Segment) → 2 ≤ i → i < length segments
      → (slice_index_or segments i d).start + length (slice_index_or segments i d).bytes ≤ IMAGE_END
  pub apart : AreApart segments
  pub bytes : All (λ (s : Segment). AreBytes s.bytes) segments

-- a running stack, within the stack
pub record IsHome (home : ℕ × ℕ) : Type 0 where
  pub low : STACK_START ≤ home.0
  pub rises : home.0 < home.1
  pub high : home.1 ≤ STACK_END
  pub low_aligned : home.0 % 4 ≡ 0
  pub high_aligned : home.1 % 4 ≡ 0

pub flat_home : IsHome (STACK_START, STACK_END)
flat_home = record { low = lit≤ tt; rises = lit< tt; high = lit≤ tt; low_aligned = refl; high_aligned = refl }

-- what holds of the memory of every bus
pub record IsMap (m : Memory) : Type 0 where
  pub segments : AreSegments m.segments
  pub guards : AreGuards m.guards
  pub home : IsHome m.home

-- ---- segments that stay as they are but for the bytes of those that may be written

pub record SameSegment (s t : Segment) : Type 0 where
  pub start : t.start ≡ s.start
  pub size : length t.bytes ≡ length s.bytes
  pub write : t.write ≡ s.write
  pub exec : t.exec ≡ s.exec
  pub fixed : s.write ≡ false → t.bytes ≡ s.bytes

abbrev pub SameMap : List Segment → List Segment → Type 0
SameMap [] [] = Unit {0}
SameMap (s ∷ ss) (t ∷ ts) = SameSegment s t × SameMap ss ts
SameMap [] (t ∷ ts) = ⊥
SameMap (s ∷ ss) [] = ⊥

-- the segment that contains the n bytes from a on isn't writable
abbrev pub IsFixed : ℕ → List Segment → ℕ → Type 0
IsFixed n segments a = fault_in (λ s. if s.write then Some (ReadOnly a) else None) n segments a ≡ None

-- What no call of a bus changes: the addresses and rights of segments, the running stack, and what loads and fetches
-- give in a segment that isn't writable, whatever the other segments are.
pub record Keeps (old new : Memory) : Type 0 where
  pub map : SameMap old.segments new.segments
  pub home : new.home ≡ old.home
  pub loads : (n a : ℕ) → IsFixed n old.segments a → load n new a ≡ load n old a
  pub fetches : (a : ℕ) → IsFixed 2 old.segments a → fetch new a ≡ fetch old a

-- no segment is both writable and executable
abbrev pub CodeIsFixed : List Segment → Type 0
CodeIsFixed [] = Unit {0}
CodeIsFixed (s ∷ ss) = ((s.write && s.exec) ≡ false) × CodeIsFixed ss
