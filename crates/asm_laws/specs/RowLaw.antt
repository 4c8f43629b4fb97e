-- The index rows of an object, in terms of its source (docs/rules/unwind-tables.md, "From the source").
use Rattle.std.specs.Prelude.{◌≡◌, ℕ, ◌^◌, ◌<◌, List, [], ◌∷◌, ◌++◌, length, drop, flat_map, slice_get, Some, Ok}
use Rattle.eh_word.specs.Bytes.{next_multiple}
use Rattle.asm_statements.specs.declared.statement.Stmt.{Stmt}
use Rattle.asm_unwind.specs.declared.entry.EntryWords.{EntryWords}
use Rattle.asm_unwind.specs.declared.entry.EntryWords.TheVariants as entry
use Rattle.asm_unwind.specs.Entries.{entry_words_of}
use Rattle.asm_relocatable.specs.declared.place.Section.TheVariants.{Text, Extab}
use Rattle.asm_layout.specs.declared.walk.Walk.{Walk}
use Rattle.asm_layout.specs.Functions.{entries_of}
use Rattle.asm_layout.specs.Labels.{labels_of}
use Rattle.asm_layout.specs.Walks.{start, cursor_place, walk_after}
use Rattle.asm_relocatable.specs.declared.object.Object.{Object}
use Rattle.asm_relocatable.specs.declared.object.RowEntry.{RowEntry}
use Rattle.asm_relocatable.specs.declared.object.RowEntry.TheVariants as row
use Rattle.asm_object.specs.Bytes.{word_bytes}
use Rattle.asm_object.specs.Objects.{object_of}
use Rattle.asm_object.specs.Pieces.{place_at, bytes_in}
use Rattle.asm_object.specs.After.{pieces_from}
use Rattle.asm_laws.specs.Functions.{HasNoBound, Function, functions_in, source_of, directives_of, start_at, end_at}

-- the walk after some statements of a source
abbrev pub walk_over : List Stmt → List Stmt → Walk
walk_over stmts before = walk_after (entries_of stmts) start before

-- the bytes that statements add to the exception tables, from a place of the walk on
abbrev pub tables_from : List Stmt → Walk → List Stmt → List ℕ
tables_from stmts walk more = bytes_in Extab (pieces_from (entries_of stmts) (labels_of (entries_of stmts) stmts) walk more)

-- the row entry for an unwind entry whose table is at a place
abbrev pub entry_for : EntryWords → ℕ → RowEntry
entry_for entry.CantUnwind table = row.CantUnwind
entry_for (entry.Inline word) table = row.Inline word
entry_for (entry.Table words) table = row.Table table

-- the table's words are at a place of the exception tables, and after them the bytes that the statements after
-- `.fnstart` add
abbrev pub TableStands : EntryWords → Function → Object → ℕ → Type 0
TableStands entry.CantUnwind f object table = Unit {0}
TableStands (entry.Inline word) f object table = Unit {0}
TableStands (entry.Table words) f object table =
    drop table object.extab
    ≡ flat_map word_bytes words
    ++ tables_from (source_of f) (walk_over (source_of f) (f.before ++ start_at f.start_line ∷ [])) (f.between ++ end_at f.end_line ∷ f.after)

-- The function has its row, by its number in the order of the text. The row is at the place of its `.fnstart`, in the
-- text, and has the entry of its directives; a table is at the next multiple of 4 of the exception tables.
pub record HasItsRow (f : Function) (object : Object) : Type 0 where
  pub words : EntryWords
  pub given : entry_words_of (directives_of f) ≡ Ok words
  pub offset : ℕ
  pub place : cursor_place (walk_over (source_of f) f.before).at ≡ place_at Text offset
  pub table : ℕ
  pub table_place : table ≡ next_multiple (walk_over (source_of f) f.before).at.sizes.extab 4
  pub row : slice_get object.rows (functions_in f.before) ≡ Some (record { offset = offset; entry = entry_for words table })
  pub stands : TableStands words f object table

abbrev pub RowsStandAtTheirFunctions : Type 0
RowsStandAtTheirFunctions =
    (f : Function) (object : Object)
    → HasNoBound f.between → length (source_of f) < 2 ^ 64 → object_of (source_of f) ≡ Ok object → HasItsRow f object

-- and there are no other rows
abbrev pub RowsAreOfFunctions : Type 0
RowsAreOfFunctions =
    (stmts : List Stmt) (object : Object)
    → length stmts < 2 ^ 64 → object_of stmts ≡ Ok object → length object.rows ≡ functions_in stmts

-- a `.fnstart` has its `.fnend`: one is among the statements after it, before the next function begins
pub record IsClosed (more : List Stmt) : Type 0 where
  pub between : List Stmt
  pub end_line : ℕ
  pub after : List Stmt
  pub split : more ≡ between ++ end_at end_line ∷ after
  pub unbounded : HasNoBound between

abbrev pub FunctionsAreClosed : Type 0
FunctionsAreClosed =
    (before more : List Stmt) (line : ℕ) (object : Object)
    → object_of (before ++ start_at line ∷ more) ≡ Ok object → IsClosed more
