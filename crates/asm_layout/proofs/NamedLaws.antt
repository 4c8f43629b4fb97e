-- What the labels of a source are without what its directives say.
use Rattle.std.proofs.Common.{◌≡◌, List, map, Option}
use Rattle.std.proofs.lemmas.List.{map-id}
use Rattle.asm_statements.specs.declared.statement.Stmt.{Stmt}
use Rattle.asm_unwind.specs.declared.entry.EntryWords.{EntryWords}
use Rattle.asm_layout.specs.Labels.{NamePlace, label_places, name_with_label}
use Rattle.asm_layout.proofs.LayoutLaws.{map_after}

-- a label keeps its name and place under what directives say of it
pub named_in-labelled : (entries : List (Option EntryWords)) (stmts : List Stmt) (labels : List NamePlace) → label_places (map (name_with_label entries stmts) labels) ≡ labels
named_in-labelled entries stmts labels = simp (map_after, map-id)
