-- The exception index (IHI 0038, "Index table entries"): two words for each function, ascending by the functions'
-- starts, and a last row that closes it. Rows and their bytes are defined in the crate eh_codes.
use Rattle.std.specs.Prelude.{ℕ, nat_lt, if◌then◌else◌, List, [], ◌∷◌, ◌++◌, map, fold}
use Rattle.std.specs.List.{flat_map}
use Rattle.eh_codes.specs.declared.row.Entry.{Entry}
use Rattle.eh_codes.specs.declared.row.EntryBody.{EntryBody}
use Rattle.eh_codes.specs.declared.row.EntryBody.TheVariants.{CantUnwind, Inline, Table}
use Rattle.eh_codes.specs.Rows.{rows_bytes}
use Rattle.asm_relocatable.specs.declared.object.IndexRow.{IndexRow}
use Rattle.asm_relocatable.specs.declared.object.RowEntry.{RowEntry}
use Rattle.asm_relocatable.specs.declared.object.RowEntry.TheVariants as entry
use Rattle.eh_link.specs.declared.places.Addresses.{Addresses}
use Rattle.eh_link.specs.Placed.{PlacedObject}
use Rattle.eh_link.specs.Layout.{address_at}

-- ---- the rows

-- the content of an object's row, given the addresses of the object's sections
abbrev pub body_at : Addresses → RowEntry → EntryBody
body_at at entry.CantUnwind = CantUnwind
body_at at (entry.Inline given) = Inline given
body_at at (entry.Table offset) = Table (address_at at.extab offset)

abbrev pub row_of : Addresses → IndexRow → Entry
row_of at row = record { start = address_at at.text row.offset; body = body_at at row.entry }

abbrev pub rows_in : PlacedObject → List Entry
rows_in placed = map (row_of placed.at) placed.object.rows

-- inserts a row among ascending rows, after those with the same start
abbrev pub row_among : List Entry → Entry → List Entry
row_among [] row = row ∷ []
row_among (first ∷ more) row = if nat_lt row.start first.start then row ∷ first ∷ more else first ∷ row_among more row

unfoldable pub in_order : List Entry → List Entry
in_order rows = fold row_among [] rows

-- the row after all others: nothing unwinds from there on
abbrev pub closing : ℕ → Entry
closing end = record { start = end; body = CantUnwind }

-- ---- their bytes

-- the index at an address: all rows, and the closing row at the end of the last text
abbrev pub index_of : ℕ → ℕ → List PlacedObject → List ℕ
index_of end start all = rows_bytes start (in_order (flat_map rows_in all) ++ closing end ∷ [])
