-- What an index that was read tells, in the terms of the standard: laws of the list of its rows (docs/rules/unwind-tables.md).
use Rattle.eh_codes.specs.declared.row.TheConstants.{ROW_SIZE, PREL31_LIMIT}
use Rattle.eh_codes.specs.Laws.{IsTold, IsLow}
use Rattle.eh_codes.specs.Rows.{rows_bytes}
use Rattle.std.specs.Prelude.{◌*◌, ◌%◌, ◌^◌, ◌≡◌, ℕ, ◌+◌, ◌<◌, ◌≤◌, true, List, length, All, Some, None}
use Rattle.elf_image.specs.Segments.{Segment}
use Rattle.elf_image.specs.Image.{Image}
use Rattle.eh_codes.specs.declared.row.Entry.{Entry}
use Rattle.eh_codes.specs.declared.row.EntryBody.TheVariants.{Table}
use Rattle.eh_index.specs.Rows.{first_word, entry_at, entry_count, entries_of}
use Rattle.eh_index.specs.Places.{is_code_bound, is_table_place, bytes_at}
use Rattle.eh_index.specs.Refusal.{index_refusal}
use Rattle.eh_index.specs.Covering.{covering}

-- the entry starts in code or at its end, and its table, if it has one, is at a multiple of 4 in the file bytes of a read-only segment
pub record IsEntry (image : Image) (e : Entry) : Type 0 where
  pub code : is_code_bound image.segments e.start ≡ true
  pub table : is_table_place image.segments e.body ≡ true

-- every entry of an index that is read is one
abbrev pub EntriesStand : Type 0
EntriesStand = (image : Image) → index_refusal image ≡ None → All (IsEntry image) (entries_of image)

-- and bit 31 of its row's first word is clear
abbrev pub FirstWordsAreClear : Type 0
FirstWordsAreClear = (image : Image) (k : ℕ) → index_refusal image ≡ None → k < entry_count image → first_word image k < PREL31_LIMIT

-- an entry covers the addresses from its start to below the next one's
abbrev pub RangesCover : Type 0
RangesCover =
    (image : Image) (site k : ℕ) → index_refusal image ≡ None → k < entry_count image → (entry_at image k).start ≤ site
    → (k + 1 < entry_count image → site < (entry_at image (k + 1)).start) → covering (entries_of image) site ≡ Some (entry_at image k)

-- where a table may stand, it has bytes
abbrev pub TablesAreThere : Type 0
TablesAreThere =
    (segments : List Segment) (a : ℕ) → is_table_place segments (Table a) ≡ true → (bytes : List ℕ) × (bytes_at segments a ≡ Some bytes) × (0 < length bytes)

-- ---- rows as they are written

-- a row that can be written: an even start below 2 ^ 30, and one of three bodies, an inline word or a table at a multiple of 4 below 2
-- ^ 30
pub record IsRow (e : Entry) : Type 0 where
  pub even : e.start % 2 ≡ 0
  pub low : IsLow e
  pub body : IsTold e.body

-- an index that is written row by row, at a multiple of 4, is read as these entries in this order
abbrev pub RowsAreRead : Type 0
RowsAreRead =
    (image : Image) (entries : List Entry) → All IsRow entries → image.index_start % 4 ≡ 0 → image.index_start + ROW_SIZE * length entries < 2 ^ 30
    → image.index_bytes ≡ rows_bytes image.index_start entries → entries_of image ≡ entries
