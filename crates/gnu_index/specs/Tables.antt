-- The rows of an index, with tables of the compact model for its generic entries (IHI 0038; docs/rules/gnu-tables.md).
use Rattle.std.specs.Prelude.{ℕ, ◌+◌, ◌%◌, ◌^◌, List, [], ◌∷◌, ◌++◌, length, map, fold, Option, Some, None, Result, Ok, Err}
use Rattle.std.specs.List.{range_with_len}
use Rattle.elf_image.specs.Image.{Image}
use Rattle.eh_codes.specs.declared.row.Entry.{Entry}
use Rattle.eh_codes.specs.declared.row.EntryBody.TheVariants.{CantUnwind, Table}
use Rattle.eh_index.specs.Rows.{entry_at, entry_count}
use Rattle.gnu_compact.specs.declared.descriptor.OwnDescriptor.{OwnDescriptor}
use Rattle.gnu_compact.specs.Descriptors.{kind_size}
use Rattle.gnu_compact.specs.Tables.{codes_end, table_bytes}
use Rattle.gnu_lsda.specs.declared.fault.EntryFault.{EntryFault}
use Rattle.gnu_lsda.specs.declared.lsda.HeadFault.{HeadFault}
use Rattle.gnu_lsda.specs.Entries.{Form, generic_of, personality_in}
use Rattle.gnu_lsda.specs.Heads.{Area, area_of}
use Rattle.gnu_lsda.specs.Faults.{fault_with}
use Rattle.gnu_descriptors.specs.declared.scopes.GnuDescriptor.{GnuDescriptor}
use Rattle.gnu_descriptors.specs.Codes.{codes_of}
use Rattle.gnu_descriptors.specs.Scopes.{scopes_of}
use Rattle.gnu_descriptors.specs.Filters.{with_filter}
use Rattle.gnu_index.specs.Lists.{Lists}

-- ---- one table

abbrev pub descriptors_of : List GnuDescriptor → List OwnDescriptor
descriptors_of scopes = map (λ s. s.descriptor) scopes

-- the filters of catches that are written one after the other from a place on; addresses are added modulo 2 ^ 32
abbrev pub filters_from : ℕ → List GnuDescriptor → List (ℕ × ℕ)
filters_from place [] = []
filters_from place (s ∷ more) = with_filter place s.filter (filters_from ((place + kind_size s.descriptor.kind) % 2 ^ 32) more)

-- ---- all rows

abbrev pub no_tables : Lists
no_tables = record { bytes = []; rows = []; filters = []; refused = [] }

-- where the next table stands
abbrev pub place_after : ℕ → Lists → ℕ
place_after base t = (base + length t.bytes) % 2 ^ 32

-- a row that stays as it is
abbrev pub with_same_row : Lists → Entry → Lists
with_same_row t row = record { bytes = t.bytes; rows = t.rows ++ row ∷ []; filters = t.filters; refused = t.refused }

-- an entry that isn't rewritten: nothing unwinds through its function
abbrev pub with_refused_entry : Lists → ℕ → EntryFault → Lists
with_refused_entry t start fault = record {
  bytes = t.bytes;
  rows = t.rows ++ record { start = start; body = CantUnwind } ∷ [];
  filters = t.filters;
  refused = t.refused ++ record { start = start; fault = fault } ∷ [];
}

-- a table at the place after those so far
abbrev pub with_table : ℕ → Lists → ℕ → List ℕ → List GnuDescriptor → Lists
with_table place t start codes scopes = record {
  bytes = t.bytes ++ table_bytes place codes (descriptors_of scopes);
  rows = t.rows ++ record { start = start; body = Table place } ∷ [];
  filters = t.filters ++ filters_from ((place + codes_end codes) % 2 ^ 32) scopes;
  refused = t.refused;
}

-- an entry of which nothing is refused has an area
abbrev pub with_area : ℕ → Lists → Form → Result Area HeadFault → Lists
with_area place t f (Ok a) = with_table place t f.start (codes_of f) (scopes_of f a)
with_area place t f (Err fault) = t

abbrev pub with_entry_or_fault : ℕ → Lists → Form → Option EntryFault → Lists
with_entry_or_fault place t f None = with_area place t f (area_of f)
with_entry_or_fault place t f (Some fault) = with_refused_entry t f.start fault

abbrev pub with_entry : Image → Option ℕ → ℕ → Lists → Entry → Option Form → Lists
with_entry image personality place t row None = with_same_row t row
with_entry image personality place t row (Some f) = with_entry_or_fault place t f (fault_with image personality f)

abbrev pub with_row : Image → ℕ → Lists → ℕ → Lists
with_row image base t k = with_entry image (personality_in image) (place_after base t) t (entry_at image k) (generic_of image k)

-- the rows in their order, with tables from an address on
unfoldable pub rewrite_rows : Image → ℕ → Lists
rewrite_rows image base = fold (with_row image base) no_tables (range_with_len 0 (entry_count image))
