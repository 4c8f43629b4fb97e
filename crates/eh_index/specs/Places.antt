-- The places that the rows of an index may point to (docs/rules/unwind-tables.md).
use Rattle.std.specs.Prelude.{ℕ, ◌+◌, ◌-◌, ◌%◌, ◌==◌, ◌&&◌, not, nat_le, nat_lt, Bool, true, List, length, drop, find, Option, None, option_map}
use Rattle.std.specs.List.{list_any}
use Rattle.elf_image.specs.Segments.{Segment, segment_end}
use Rattle.elf_image.specs.Image.{Image}
use Rattle.eh_codes.specs.declared.row.Entry.{Entry}
use Rattle.eh_codes.specs.declared.row.EntryBody.{EntryBody}
use Rattle.eh_codes.specs.declared.row.EntryBody.TheVariants.{CantUnwind, Inline, Table}

-- the address lies in an executable segment, or at the end of one
abbrev pub is_code_bound : List Segment → ℕ → Bool
is_code_bound segments a = list_any (λ s. s.exec && nat_le s.start a && nat_le a (segment_end s)) segments

-- the segment is read-only, and has a file byte at the address
abbrev pub holds_byte : ℕ → Segment → Bool
holds_byte a s = not s.write && nat_le s.start a && nat_lt a (s.start + length s.bytes)

-- the file bytes from an address on, to the end of those of its read-only segment
abbrev pub bytes_at : List Segment → ℕ → Option (List ℕ)
bytes_at segments a = option_map (λ s. drop (a - s.start) s.bytes) (find (holds_byte a) segments)

-- a table is at a multiple of 4, in such bytes
abbrev pub is_table_place : List Segment → EntryBody → Bool
is_table_place segments CantUnwind = true
is_table_place segments (Inline word) = true
is_table_place segments (Table a) = a % 4 == 0 && list_any (holds_byte a) segments

abbrev pub table_in : List Segment → EntryBody → Option (List ℕ)
table_in segments CantUnwind = None
table_in segments (Inline word) = None
table_in segments (Table a) = bytes_at segments a

-- the bytes of an entry's table; None if it has no table, or there are no such bytes
abbrev pub table_of : Image → Entry → Option (List ℕ)
table_of image e = table_in image.segments e.body
