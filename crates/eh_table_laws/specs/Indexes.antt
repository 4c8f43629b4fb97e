-- Why an index table can't be read, and in which order its faults count (IHI 0038, "Index table entries"; docs/rules/unwind-tables.md), in
-- bytes and numbers.
use Rattle.std.specs.Prelude.{◌≡◌, ◌≢◌, ℕ, ◌+◌, ◌-◌, ◌*◌, ◌%◌, ◌<◌, ◌≤◌, true, false, length, Any, Option, Some, None}
use Rattle.elf_image.specs.Segments.{Segment}
use Rattle.elf_image.specs.Image.{Image}
use Rattle.eh_index.specs.declared.fault.IndexFault.{IndexFault}
use Rattle.eh_index.specs.declared.fault.IndexFault.TheVariants.{Length, OutsideImage, Unsorted}
use Rattle.eh_index.specs.Refusal.{index_refusal}
use Rattle.eh_table_laws.specs.Words.{word_by, prel31_target}

-- ---- rows of eight bytes

abbrev pub first : Image → ℕ → ℕ
first image k = word_by image.index_bytes (8 * k)

abbrev pub second : Image → ℕ → ℕ
second image k = word_by image.index_bytes (8 * k + 4)

-- the start of a row's function: where its first word leads, without bit 0
abbrev pub start_of : Image → ℕ → ℕ
start_of image k = prel31_target (image.index_start + 8 * k) (first image k) - prel31_target (image.index_start + 8 * k) (first image k) % 2

-- the second word of a row is neither 1 nor an inline entry, whose bit 31 is set: it refers to a table
pub record HasTable (image : Image) (k a : ℕ) : Type 0 where
  pub some : second image k ≢ 1
  pub clear : second image k < 2147483648
  pub leads : a ≡ prel31_target (image.index_start + 8 * k + 4) (second image k)

-- ---- places

-- from the start of an executable segment to its end, both included
pub record BoundsCode (a : ℕ) (s : Segment) : Type 0 where
  pub executes : s.exec ≡ true
  pub from : s.start ≤ a
  pub to : a ≤ s.start + s.size

-- among the file's bytes of a read-only segment
pub record HasByte (a : ℕ) (s : Segment) : Type 0 where
  pub fixed : s.write ≡ false
  pub from : s.start ≤ a
  pub below : a < s.start + length s.bytes

-- ---- a row without fault

-- bit 31 of its first word is clear, its function begins in code or at the end of code, and its table, if it has one, is at a multiple
-- of 4 in bytes that aren't writable
pub record LeadsInside (image : Image) (k : ℕ) : Type 0 where
  pub clear : first image k < 2147483648
  pub code : Any (BoundsCode (start_of image k)) image.segments
  pub aligned : (a : ℕ) → HasTable image k a → a % 4 ≡ 0
  pub there : (a : ℕ) → HasTable image k a → Any (HasByte a) image.segments

-- and it doesn't begin below the row before it
pub record IsFine (image : Image) (k : ℕ) : Type 0 where
  pub inside : LeadsInside image k
  pub rises : 0 < k → start_of image (k - 1) ≤ start_of image k

-- row k is there, and every row before it is without fault
pub record IsFirst (image : Image) (k : ℕ) : Type 0 where
  pub whole : length image.index_bytes % 8 ≡ 0
  pub there : 8 * k + 8 ≤ length image.index_bytes
  pub before : (j : ℕ) → j < k → IsFine image j

-- ---- the refusal

-- A size that isn't a multiple of a row's is refused before all rows. Then the lowest row with a fault counts; in a row, a place
-- outside the image comes before a start below that of the row before.
abbrev pub IndexVerdict : Image → Option IndexFault → Type 0
IndexVerdict image None = (length image.index_bytes % 8 ≡ 0) × ((k : ℕ) → 8 * k + 8 ≤ length image.index_bytes → IsFine image k)
IndexVerdict image (Some Length) = length image.index_bytes % 8 ≢ 0
IndexVerdict image (Some (OutsideImage k)) = IsFirst image k × ¬ (LeadsInside image k)
IndexVerdict image (Some (Unsorted k)) = IsFirst image k × LeadsInside image k × (0 < k) × (start_of image k < start_of image (k - 1))

abbrev pub RefusalsAreTold : Type 0
RefusalsAreTold = (image : Image) → IndexVerdict image (index_refusal image)
