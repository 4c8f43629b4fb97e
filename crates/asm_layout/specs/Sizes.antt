-- How many bytes statements have, and where sections end (docs/rules/sources.md). Sums are capped at 2^64 - 1, far above what
-- a section may have.
use Rattle.std.specs.Prelude.{ℕ, ◌+◌, ◌-◌, ◌*◌, ◌^◌, ◌||◌, ℤ, pos, negsuc, Bool, nat_lt, min, if◌then◌else◌, length, Option, Some, None, is_some}
use Rattle.eh_word.specs.Bytes.{gap}
use Rattle.asm_statements.specs.declared.statement.StmtKind.{StmtKind}
use Rattle.asm_unwind.specs.declared.entry.EntryWords.{EntryWords}
use Rattle.asm_unwind.specs.declared.entry.EntryWords.TheVariants as entry
use Rattle.asm_relocatable.specs.declared.place.Section.{Section}
use Rattle.asm_relocatable.specs.declared.place.Section.TheVariants.{Text, Rodata, Extab, Init, Bss}
use Rattle.asm_layout.specs.declared.walk.Sizes.{Sizes}
use Rattle.asm_layout.specs.declared.walk.TheConstants.{MOST_BYTES}
use Rattle.asm_layout.specs.Given.{StmtData, FieldsOf, TextOf, ZerosOf, bytes_of}
use Rattle.asm_layout.specs.Sorts.{Sort, CodeOf, DataOf, Filling, AboutName, Bare, sort_of, operation}

abbrev pub sum_64 : ℕ → ℕ → ℕ
sum_64 a b = min (a + b) (2 ^ 64 - 1)

-- a length times the size of an element
abbrev pub times : ℕ → ℕ → ℕ
times len size = min (len * size) (2 ^ 64 - 1)

-- the alignment that `.align n` asks for; 1 if n is outside of 0 to 3
abbrev pub multiple : ℤ → ℕ
multiple (pos n) = if nat_lt 3 n then 1 else 2 ^ n
multiple (negsuc n) = 1

-- a number, 0 for one below
abbrev pub natural : ℤ → ℕ
natural (pos n) = n
natural (negsuc n) = 0

abbrev pub is_instruction : StmtKind → Bool
is_instruction kind = is_some (operation kind)

abbrev pub data_size : StmtData → ℕ
data_size (FieldsOf width fields) = times (length fields) (bytes_of width)
data_size (TextOf text closed) = if closed then sum_64 (times (length text) 1) 1 else times (length text) 1
data_size (ZerosOf n) = natural n

-- the bytes of a sort, by what `.align n` fills
abbrev pub sort_size : (ℤ → ℕ) → Sort → ℕ
sort_size fills (CodeOf bytes _) = bytes
sort_size fills (DataOf d) = data_size d
sort_size fills (Filling n) = fills n
sort_size fills (AboutName _) = 0
sort_size fills Bare = 0

-- the size in bytes of a statement at a place: `.align` fills up to a multiple
abbrev pub size_at : ℕ → StmtKind → ℕ
size_at place kind = sort_size (λ n. gap place (multiple n)) (sort_of kind)

-- the size in bytes of a statement, if it is the same at every place
abbrev pub size : StmtKind → ℕ
size kind = sort_size (λ n. 0) (sort_of kind)

-- the size in bytes of a function's table after a place of the exception tables, alignment included
abbrev pub table_size : ℕ → Option EntryWords → ℕ
table_size place (Some (entry.Table words)) = sum_64 (gap place 4) (times (length words) 4)
table_size place (Some entry.CantUnwind) = 0
table_size place (Some (entry.Inline _)) = 0
table_size place None = 0

abbrev pub size_in : Sizes → Section → ℕ
size_in sizes Text = sizes.text
size_in sizes Rodata = sizes.rodata
size_in sizes Extab = sizes.extab
size_in sizes Init = sizes.init
size_in sizes Bss = sizes.bss

-- with more bytes in a section
abbrev pub sizes_with_more : Sizes → Section → ℕ → Sizes
sizes_with_more sizes Text by = record sizes { text = sum_64 sizes.text by }
sizes_with_more sizes Rodata by = record sizes { rodata = sum_64 sizes.rodata by }
sizes_with_more sizes Extab by = record sizes { extab = sum_64 sizes.extab by }
sizes_with_more sizes Init by = record sizes { init = sum_64 sizes.init by }
sizes_with_more sizes Bss by = record sizes { bss = sum_64 sizes.bss by }

-- a section has more than 1,048,576 bytes
abbrev pub is_too_large : Sizes → Bool
is_too_large sizes =
    nat_lt MOST_BYTES sizes.text || nat_lt MOST_BYTES sizes.rodata || nat_lt MOST_BYTES sizes.extab
    || nat_lt MOST_BYTES sizes.init || nat_lt MOST_BYTES sizes.bss
