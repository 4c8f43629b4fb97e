-- What the rest of a source emits, from a place of the walk on; used by laws.
use Rattle.std.specs.Prelude.{List, Option}
use Rattle.asm_statements.specs.declared.statement.Stmt.{Stmt}
use Rattle.asm_unwind.specs.declared.entry.EntryWords.{EntryWords}
use Rattle.asm_layout.specs.declared.fault.AsmFault.{AsmFault}
use Rattle.asm_layout.specs.declared.walk.Walk.{Walk}
use Rattle.asm_layout.specs.Labels.{NamePlace}
use Rattle.asm_layout.specs.Placing.{place_stmts_from, last_pool}
use Rattle.asm_relocatable.specs.declared.object.IndexRow.{IndexRow}
use Rattle.asm_object.specs.Objects.{refusals_of}
use Rattle.asm_object.specs.Pieces.{Piece, pieces_of, rows_of}

abbrev pub pieces_from : List (Option EntryWords) → List NamePlace → Walk → List Stmt → List Piece
pieces_from entries labels walk stmts = pieces_of entries labels (place_stmts_from entries walk stmts) (last_pool entries walk stmts)

abbrev pub refusals_from : List (Option EntryWords) → List NamePlace → Walk → List Stmt → List AsmFault
refusals_from entries labels walk stmts = refusals_of labels (place_stmts_from entries walk stmts)

abbrev pub rows_from : List (Option EntryWords) → Walk → List Stmt → List IndexRow
rows_from entries walk stmts = rows_of entries (place_stmts_from entries walk stmts)
