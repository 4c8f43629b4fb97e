-- Each index row of an object belongs to a function of its source; and where rows lie
-- (docs/rules/unwind-tables.md, "From the source").
use Rattle.std.specs.Prelude.{◌≡◌, ℕ, ◌+◌, ◌%◌, ◌^◌, ◌<◌, ◌≤◌, List, ◌∷◌, ◌++◌, length, All, slice_get, Some, Ok}
use Rattle.asm_statements.specs.declared.statement.Stmt.{Stmt}
use Rattle.asm_statements.specs.declared.statement.StmtKind.{StmtKind}
use Rattle.asm_statements.specs.declared.statement.StmtKind.TheVariants as statement
use Rattle.eh_codes.specs.declared.words.TheConstants.{COMPACT_MARK}
use Rattle.asm_relocatable.specs.declared.object.IndexRow.{IndexRow}
use Rattle.asm_relocatable.specs.declared.object.Object.{Object}
use Rattle.asm_relocatable.specs.declared.object.RowEntry.{RowEntry}
use Rattle.asm_relocatable.specs.declared.object.RowEntry.TheVariants as row
use Rattle.asm_object.specs.Objects.{object_of}
use Rattle.asm_laws.specs.Functions.{HasNoBound, Function, functions_in, source_of, start_at}
use Rattle.asm_laws.specs.RowLaw.{walk_over, HasItsRow}

-- the function of a source with the number of a row
pub record IsRowOfFunction (stmts : List Stmt) (object : Object) (k : ℕ) : Type 0 where
  pub function : Function
  pub source : source_of function ≡ stmts
  pub number : functions_in function.before ≡ k
  pub unbounded : HasNoBound function.between
  pub has_row : HasItsRow function object

abbrev pub EachRowIsAFunctions : Type 0
EachRowIsAFunctions =
    (stmts : List Stmt) (object : Object) (k : ℕ)
    → length stmts < 2 ^ 64 → object_of stmts ≡ Ok object → k < length object.rows → IsRowOfFunction stmts object k

-- rows are in the order of their functions: none begins below the one before it
abbrev pub RowsRise : Type 0
RowsRise =
    (stmts : List Stmt) (object : Object) (j k : ℕ) (first second : IndexRow)
    → length stmts < 2 ^ 64 → object_of stmts ≡ Ok object → j ≤ k → slice_get object.rows j ≡ Some first → slice_get object.rows k ≡ Some second
    → first.offset ≤ second.offset

-- and the row after a function's begins at the function's `.fnend` or later
abbrev pub LaterRowsBeginAfter : Type 0
LaterRowsBeginAfter =
    (f : Function) (object : Object) (k : ℕ) (row : IndexRow)
    → HasNoBound f.between → length (source_of f) < 2 ^ 64 → object_of (source_of f) ≡ Ok object
    → functions_in f.before < k → slice_get object.rows k ≡ Some row
    → (walk_over (source_of f) (f.before ++ start_at f.start_line ∷ f.between)).at.sizes.text ≤ row.offset

-- a register list of 16 bits, as every list that is read
abbrev pub HasShortList : StmtKind → Type 0
HasShortList (statement.Save list) = list < 2 ^ 16
HasShortList _ = Unit {0}

abbrev pub HaveShortLists : List Stmt → Type 0
HaveShortLists stmts = All (λ s. HasShortList s.kind) stmts

-- an inline entry is a word with bit 31 set; a table is at a multiple of 4, with a word there
abbrev pub LiesIn : Object → RowEntry → Type 0
LiesIn object row.CantUnwind = Unit {0}
LiesIn object (row.Inline word) = (COMPACT_MARK ≤ word) × (word < 2 ^ 32)
LiesIn object (row.Table offset) = (offset % 4 ≡ 0) × (offset + 4 ≤ length object.extab)

pub record RowLies (object : Object) (row : IndexRow) : Type 0 where
  pub start : row.offset ≤ length object.text
  pub second : LiesIn object row.entry

abbrev pub RowsLieInTheirObjects : Type 0
RowsLieInTheirObjects =
    (stmts : List Stmt) (object : Object)
    → length stmts < 2 ^ 64 → HaveShortLists stmts → object_of stmts ≡ Ok object → All (RowLies object) object.rows
