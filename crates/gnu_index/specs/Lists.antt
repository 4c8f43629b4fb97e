-- The rewritten unwind tables of an image, as lists (docs/rules/gnu-tables.md).
use Rattle.std.specs.Prelude.{ℕ, List}
use Rattle.eh_codes.specs.declared.row.Entry.{Entry}
use Rattle.gnu_index.specs.declared.tables.RefusedEntry.{RefusedEntry}

pub record Lists : Type 0 where
  pub bytes : List ℕ
  pub rows : List Entry
  pub filters : List (ℕ × ℕ)
  pub refused : List RefusedEntry
