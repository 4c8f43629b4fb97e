-- The object of statements, or why there is none (docs/rules/sources.md).
use Rattle.std.specs.Prelude.{ℕ, ◌%◌, ◌^◌, List, [], ◌∷◌, ◌++◌, map, flat_map, Option, Some, None, Result, Ok, Err}
use Rattle.asm_statements.specs.declared.statement.Stmt.{Stmt}
use Rattle.asm_relocatable.specs.declared.place.Section.TheVariants.{Text, Rodata, Extab, Init}
use Rattle.asm_relocatable.specs.declared.object.ObjSymbol.{ObjSymbol}
use Rattle.asm_relocatable.specs.declared.object.Object.{Object}
use Rattle.asm_layout.specs.declared.fault.AsmFault.{AsmFault}
use Rattle.asm_layout.specs.declared.fault.AsmWhat.{AsmWhat}
use Rattle.asm_layout.specs.Faults.{fault_at, first_of_all}
use Rattle.asm_layout.specs.Functions.{entries_of, unwind_faults_of}
use Rattle.asm_layout.specs.PlacedStmt.{PlacedStmt}
use Rattle.asm_layout.specs.Placing.{place_stmts, last_pool}
use Rattle.asm_layout.specs.Walks.{start, walk_after}
use Rattle.asm_layout.specs.Labels.{NamePlace, labels_of, name_with_label, duplicates_from, too_large_from}
use Rattle.asm_layout.specs.declared.labels.Label.{Label}
use Rattle.asm_object.specs.Refusals.{refusal}
use Rattle.asm_object.specs.Pieces.{pieces_of, bytes_in, relocs_in, marks_from, rows_of}

abbrev pub faults_at : ℕ → Option AsmWhat → List AsmFault
faults_at line None = []
faults_at line (Some what) = fault_at line what ∷ []

-- the refusals of a statement at its place
abbrev pub refusals_at : List NamePlace → PlacedStmt → List AsmFault
refusals_at labels placed =
    faults_at placed.stmt.line (refusal labels placed.stmt.kind placed.at.section placed.at.offset placed.word)

abbrev pub refusals_of : List NamePlace → List PlacedStmt → List AsmFault
refusals_of labels placed = flat_map (refusals_at labels) placed

-- every refusal of a source
unfoldable pub faults_of : List Stmt → List AsmFault
faults_of stmts =
    let entries = entries_of stmts in
    unwind_faults_of stmts ++ duplicates_from [] stmts ++ too_large_from entries start 0 stmts
    ++ refusals_of (labels_of entries stmts) (place_stmts entries stmts)

-- a label as a symbol; offsets and sizes are words
abbrev pub symbol_of : List ℕ × Label → ObjSymbol
symbol_of label = record {
  name = label.0;
  section = label.1.place.section;
  offset = label.1.place.offset % 2 ^ 32;
  size = label.1.size % 2 ^ 32;
  function = label.1.function;
  global = label.1.global;
}

-- the object of a source without refusals
unfoldable pub assembled_object : List Stmt → Object
assembled_object stmts =
    let entries = entries_of stmts in
    let labels = labels_of entries stmts in
    let pieces = pieces_of entries labels (place_stmts entries stmts) (last_pool entries start stmts) in
    record {
      text = bytes_in Text pieces;
      rodata = bytes_in Rodata pieces;
      extab = bytes_in Extab pieces;
      init = bytes_in Init pieces;
      bss = (walk_after entries start stmts).at.sizes.bss % 2 ^ 32;
      symbols = map (λ label. symbol_of (name_with_label entries stmts label)) labels;
      marks = marks_from None pieces;
      rows = rows_of entries (place_stmts entries stmts);
      relocs = relocs_in Text pieces ++ relocs_in Rodata pieces ++ relocs_in Extab pieces ++ relocs_in Init pieces;
    }

abbrev pub object_unless : Option AsmFault → Object → Result Object AsmFault
object_unless None object = Ok object
object_unless (Some fault) object = Err fault

-- the object, or the refusal at the lowest line, there the one with the lowest number
unfoldable pub object_of : List Stmt → Result Object AsmFault
object_of stmts = object_unless (first_of_all None (faults_of stmts)) (assembled_object stmts)
