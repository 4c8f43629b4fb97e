-- Where the descriptors of a table are, and how wide their lengths and offsets are (IHI 0038, "The compact model";
-- docs/rules/unwind-tables.md).
use Rattle.std.specs.Prelude.{◌≡◌, ◌≢◌, ℕ, ◌+◌, ◌-◌, ◌*◌, ◌%◌, ◌<◌, ◌≤◌, Bool, true, false, List, ◌∷◌, ◌++◌, length, slice_index, All, Option, Some, None}
use Rattle.elf_image.specs.Segments.{Segment}
use Rattle.eh_codes.specs.declared.row.EntryBody.TheVariants.{Table}
use Rattle.eh_desc.specs.declared.descriptor.DescKind.TheVariants.{Spec}
use Rattle.eh_desc.specs.Grammar.{items_of, items_from, type_in}
use Rattle.eh_table_laws.specs.Words.{WordStands}

-- the bytes of a table, the first of which are those of a word with this top byte, this one below it, and two more
abbrev pub table_bytes : ℕ → ℕ → ℕ → ℕ → List ℕ → List ℕ
table_bytes top count b a more = a ∷ b ∷ count ∷ top ∷ more

-- the descriptors of a table are those from a place on, with lengths and offsets of words or of halfwords
abbrev pub Begin : ℕ → ℕ → List ℕ → ℕ → Bool → Type 0
Begin start address bytes place wide =
    items_of (record { start = start; body = Table address }) (Some bytes) ≡ items_from (record { bytes = bytes; address = address; start = start; wide = wide }) place

-- with a top byte of 80, personality index 0, they follow the first word, and lengths and offsets are halfwords
abbrev pub IndexZeroIsNarrow : Type 0
IndexZeroIsNarrow =
    (start address count b a : ℕ) (more : List ℕ) → count < 256 → b < 256 → a < 256
    → Begin start address (table_bytes 0x80 count b a more) 4 false

-- With 81 and 82, indices 1 and 2, the byte below is the number of words of unwind instructions after the first. Index 1 has halfwords,
-- index 2 words.
abbrev pub LongIndices : Type 0
LongIndices =
    (start address count b a : ℕ) (more : List ℕ) → count < 256 → b < 256 → a < 256 → 4 * count ≤ length more → ((i : ℕ) → slice_index more i < 256)
    → Begin start address (table_bytes 0x81 count b a more) (4 + 4 * count) false × Begin start address (table_bytes 0x82 count b a more) (4 + 4 * count) true

-- ---- the types of a specification

-- an address whose word is in the bytes of a read-only segment; the bytes of the segments before it end at or below the address
pub record IsThere (segments : List Segment) (address word : ℕ) : Type 0 where
  pub before : List Segment
  pub segment : Segment
  pub after : List Segment
  pub place : segments ≡ before ++ segment ∷ after
  pub below : All (λ s. s.start + length s.bytes ≤ address) before
  pub read_only : segment.write ≡ false
  pub begins : segment.start ≤ address
  pub stands : WordStands segment.bytes (address - segment.start) word

-- A type of a specification is at the distance that its word gives, from the word's own address. A word of 0 is no type, and there are
-- only as many as are counted.
pub record TypesOf (segments : List Segment) (types count : ℕ) (pad : Option ℕ) : Type 0 where
  pub named : (i word : ℕ) → i < count → types + 4 * i < 4294967296 → IsThere segments (types + 4 * i) word → word ≢ 0
      → type_in segments (Spec types count pad) i ≡ Some ((types + 4 * i + word) % 4294967296)
  pub none : (i : ℕ) → i < count → types + 4 * i < 4294967296 → IsThere segments (types + 4 * i) 0 → type_in segments (Spec types count pad) i ≡ None
  pub counted : (i : ℕ) → count ≤ i → type_in segments (Spec types count pad) i ≡ None

abbrev pub SpecificationTypes : Type 0
SpecificationTypes = (segments : List Segment) (types count : ℕ) (pad : Option ℕ) → TypesOf segments types count pad
