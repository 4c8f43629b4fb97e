-- Instructions and index rows read back as they were written.
use Rattle.std.specs.Prelude.{◌≡◌, ℕ, ◌<◌, ◌≤◌, ◌+◌, ◌*◌, ◌%◌, ◌^◌, List, ◌++◌, map, flat_map, drop, length, All, slice_get, Some, Ok}
use Rattle.byteorder.specs.Endian.{little_number}
use Rattle.eh_word.specs.Words.{prel31_of, number_at, uleb128_front}
use Rattle.eh_codes.specs.declared.code.UnwindCode.{UnwindCode}
use Rattle.eh_codes.specs.declared.row.Entry.{Entry}
use Rattle.eh_codes.specs.declared.row.EntryBody.{EntryBody}
use Rattle.eh_codes.specs.declared.row.EntryBody.TheVariants.{CantUnwind, Inline, Table}
use Rattle.eh_codes.specs.declared.row.TheConstants.{CANT_UNWIND, ROW_SIZE, PREL31_LIMIT}
use Rattle.eh_codes.specs.declared.words.TheConstants.{COMPACT_MARK}
use Rattle.eh_codes.specs.Bytes.{code_bytes, shortest_uleb128, IsCode, HasBytes}
use Rattle.eh_codes.specs.Cut.{Is, split_codes_from}
use Rattle.eh_codes.specs.Rows.{body_of, row_as_read, entry_of, second_word, rows_bytes}

-- the bytes of instructions, in front of others, decode to these instructions; the others decode as they would alone at
-- their place
abbrev pub CodesAreCut : Type 0
CodesAreCut =
    (codes : List UnwindCode) (place : ℕ) (after : List ℕ) → All IsCode codes → All HasBytes codes
    → split_codes_from place (flat_map code_bytes codes ++ after) ≡ map Is codes ++ split_codes_from (place + length (flat_map code_bytes codes)) after

-- the shortest ULEB128 encoding of a number of at most 14 bits reads as that number, whatever follows it
abbrev pub NumbersRead : Type 0
NumbersRead =
    (n : ℕ) (more : List ℕ) → n < 2 ^ 14
    → uleb128_front (shortest_uleb128 n ++ more) ≡ Ok (n, length (shortest_uleb128 n))

-- ---- rows

-- an inline entry has bit 31 set; a table is at a multiple of 4 below 2 ^ 30
abbrev pub IsBody : EntryBody → Type 0
IsBody CantUnwind = Unit {0}
IsBody (Inline word) = COMPACT_MARK ≤ word
IsBody (Table address) = (address < 2 ^ 30) × (address % 4 ≡ 0)

-- the second word of a row, at a multiple of 4 below 2 ^ 30, reads back as it was written
abbrev pub RowsReadBack : Type 0
RowsReadBack =
    (place : ℕ) (body : EntryBody) → place < 2 ^ 30 → place % 4 ≡ 0 → IsBody body → body_of place (second_word place body) ≡ body

-- the word at an offset of bytes that begin at a place leads to an address: bit 31 is clear, and bits 30 to 0 are the way from the
-- word's own address
pub record LeadsTo (address place : ℕ) (bytes : List ℕ) (offset : ℕ) : Type 0 where
  pub word : ℕ
  pub there : number_at 4 bytes offset ≡ Some word
  pub clear : word < PREL31_LIMIT
  pub leads : prel31_of (place + offset) word ≡ address

-- the word at an offset is 1 for CantUnwind, or the inline entry, or the relative address of the table
abbrev pub Says : EntryBody → ℕ → List ℕ → ℕ → Type 0
Says CantUnwind place bytes offset = number_at 4 bytes offset ≡ Some CANT_UNWIND
Says (Inline word) place bytes offset = number_at 4 bytes offset ≡ Some word
Says (Table address) place bytes offset = LeadsTo address place bytes offset

-- the two words at an offset are those of a row
pub record SaysRow (row : Entry) (place : ℕ) (bytes : List ℕ) (offset : ℕ) : Type 0 where
  pub start : LeadsTo row.start place bytes offset
  pub second : Says row.body place bytes (offset + 4)

abbrev pub IsLowBody : EntryBody → Type 0
IsLowBody CantUnwind = Unit {0}
IsLowBody (Inline word) = word < 2 ^ 32
IsLowBody (Table address) = address < 2 ^ 30

-- a row's addresses are below 2 ^ 30, so 31 bits are enough to reach them from any place below 2 ^ 30; an inline entry
-- is a word
pub record IsLow (row : Entry) : Type 0 where
  pub start : row.start < 2 ^ 30
  pub body : IsLowBody row.body

-- the bytes at a place are those of rows of ROW_SIZE bytes each
pub record HasRows (rows : List Entry) (place : ℕ) (bytes : List ℕ) : Type 0 where
  pub size : length bytes ≡ ROW_SIZE * length rows
  pub each : (k : ℕ) (row : Entry) → slice_get rows k ≡ Some row → SaysRow row place bytes (ROW_SIZE * k)

-- the bytes of rows at a place are those of these rows
abbrev pub RowsSay : Type 0
RowsSay = (place : ℕ) (rows : List Entry) → All IsLow rows → place + ROW_SIZE * length rows ≤ 2 ^ 30 → HasRows rows place (rows_bytes place rows)

-- an inline entry has bit 31 set, and a table is at a multiple of 4; so the second word tells which it is
abbrev pub IsTold : EntryBody → Type 0
IsTold CantUnwind = Unit {0}
IsTold (Inline word) = COMPACT_MARK ≤ word
IsTold (Table address) = address % 4 ≡ 0

-- the two words of a row at a multiple of 4 read back as that row, with bit 0 of its start cleared
abbrev pub RowsAreRead : Type 0
RowsAreRead =
    (row : Entry) (place : ℕ) (bytes : List ℕ) (offset : ℕ)
    → SaysRow row place bytes offset → IsTold row.body → (place + offset) % 4 ≡ 0 → place + offset + ROW_SIZE ≤ 2 ^ 30
    → entry_of (place + offset) (little_number 4 (drop offset bytes)) (little_number 4 (drop (offset + 4) bytes)) ≡ row_as_read row
