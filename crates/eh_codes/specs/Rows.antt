-- The rows of the exception index (IHI 0038, "Index table entries").
use Rattle.std.specs.Prelude.{ℕ, ◌+◌, ◌-◌, ◌%◌, ◌^◌, ◌==◌, nat_le, if◌then◌else◌, List, [], ◌∷◌, ◌++◌}
use Rattle.byteorder.specs.Endian.{little_bytes}
use Rattle.eh_word.specs.Words.{prel31_of}
use Rattle.eh_codes.specs.declared.row.Entry.{Entry}
use Rattle.eh_codes.specs.declared.row.EntryBody.{EntryBody}
use Rattle.eh_codes.specs.declared.row.EntryBody.TheVariants.{CantUnwind, Inline, Table}
use Rattle.eh_codes.specs.declared.row.TheConstants.{CANT_UNWIND, ROW_SIZE, PREL31_LIMIT}
use Rattle.eh_codes.specs.declared.words.TheConstants.{COMPACT_MARK}

-- an address relative to the place of the word, in bits 30 to 0
abbrev pub prel31_to : ℕ → ℕ → ℕ
prel31_to place target = (target + (2 ^ 32 - place)) % 2 ^ 32 % PREL31_LIMIT

-- decodes the second word of a row, at a place
abbrev pub body_of : ℕ → ℕ → EntryBody
body_of place word =
    if word == CANT_UNWIND then CantUnwind else (if nat_le COMPACT_MARK word then Inline word else Table (prel31_of place word))

-- a number with bit 0 cleared. In an address of code bit 0 isn't part of the address; in a descriptor it is a mark
abbrev pub even : ℕ → ℕ
even address = address - address % 2

-- a row as it is read
abbrev pub row_as_read : Entry → Entry
row_as_read row = record { start = even row.start; body = row.body }

-- the row whose two words stand at a place
abbrev pub entry_of : ℕ → ℕ → ℕ → Entry
entry_of place first second = record {
  start = even (prel31_of place first);
  body = body_of ((place + 4) % 2 ^ 32) second;
}

-- the second word of a row
abbrev pub second_word : ℕ → EntryBody → ℕ
second_word place CantUnwind = CANT_UNWIND
second_word place (Inline word) = word
second_word place (Table address) = prel31_to place address

-- the bytes of a row whose first word is at a place; addresses are relative to the word that holds them
unfoldable pub row_bytes : ℕ → Entry → List ℕ
row_bytes place row = little_bytes 4 (prel31_to place row.start) ++ little_bytes 4 (second_word ((place + 4) % 2 ^ 32) row.body)

-- the bytes of consecutive rows, the first of which is at a place
abbrev pub rows_bytes : ℕ → List Entry → List ℕ
rows_bytes place [] = []
rows_bytes place (row ∷ more) = row_bytes place row ++ rows_bytes ((place + ROW_SIZE) % 2 ^ 32) more
