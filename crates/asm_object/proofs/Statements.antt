-- The pieces of a statement, by where the walk stands.
use Rattle.std.specs.Prelude.{ℕ, List, [], ◌∷◌, ◌++◌, Option}
use Rattle.asm_statements.specs.declared.statement.StmtKind.{StmtKind}
use Rattle.asm_unwind.specs.declared.entry.EntryWords.{EntryWords}
use Rattle.asm_layout.specs.declared.walk.Walk.{Walk}
use Rattle.asm_layout.specs.Labels.{NamePlace}
use Rattle.asm_layout.specs.Placing.{puts_at}
use Rattle.asm_layout.specs.Walks.{cursor_place}
use Rattle.asm_object.specs.Pieces.{Piece, set_pieces, own_piece}

-- what a statement fills and puts
abbrev pub walk_sets : List (Option EntryWords) → List NamePlace → Walk → StmtKind → List Piece
walk_sets entries labels walk kind = set_pieces entries labels kind (cursor_place walk.at) (puts_at walk kind)

abbrev pub walk_pieces : List (Option EntryWords) → List NamePlace → Walk → Option ℕ → StmtKind → List Piece
walk_pieces entries labels walk word kind = walk_sets entries labels walk kind ++ own_piece labels kind (cursor_place walk.at) word ∷ []
