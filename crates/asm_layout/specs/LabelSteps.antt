-- What one statement says of the labels so far (docs/rules/sources.md, "Names").
use Rattle.std.specs.Prelude.{ℕ, Bool, false, ◌||◌, if◌then◌else◌, List, [], ◌++◌, map}
use Rattle.std.specs.List.{list_any}
use Rattle.eh_word.specs.Names.{same_bytes}
use Rattle.asm_statements.specs.declared.statement.Stmt.{Stmt}
use Rattle.asm_statements.specs.declared.statement.StmtKind.{StmtKind}
use Rattle.asm_statements.specs.declared.statement.StmtKind.TheVariants as stmt
use Rattle.asm_relocatable.specs.declared.place.Place.{Place}
use Rattle.asm_layout.specs.declared.labels.Label.{Label}
use Rattle.asm_layout.specs.PlacedStmt.{PlacedStmt}
use Rattle.asm_layout.specs.Labels.{NamePlace, is_among, new_labels, label_places, size_by, label_size, is_function_after, function_from, global_by}

-- a label of which directives say nothing
abbrev pub blank_label : NamePlace → List ℕ × Label
blank_label label = (label.name, record { place = label.place; size = 0; function = false; global = false })

-- a label with its size
abbrev pub label_with_size : List PlacedStmt → NamePlace → List ℕ × Label
label_with_size placed label = (
  label.name,
  record {
    place = label.place;
    size = label_size label.name [] 0 placed;
    function = false;
    global = false;
  },
)

-- a label after a statement, which may be its `.size`
abbrev pub entry_after : List NamePlace → StmtKind → Place → List ℕ × Label → List ℕ × Label
entry_after labels kind place entry =
    (entry.0, record entry.1 { size = size_by entry.0 labels entry.1.size kind place })

-- the labels after a statement, which may define one
abbrev pub labels_after : List (List ℕ × Label) → StmtKind → Place → List (List ℕ × Label)
labels_after so_far kind place =
    map (entry_after (label_places so_far) kind place) so_far ++ map blank_label (new_labels (label_places so_far) kind place)

abbrev pub defines_again : List NamePlace → StmtKind → Bool
defines_again labels (stmt.Label name) = is_among name labels
defines_again labels _ = false

abbrev pub entry_with_type : List ℕ → Bool → List ℕ × Label → List ℕ × Label
entry_with_type name function entry =
    (entry.0, record entry.1 { function = if same_bytes entry.0 name then function else entry.1.function })

abbrev pub entry_global : List ℕ → List ℕ × Label → List ℕ × Label
entry_global name entry = (entry.0, record entry.1 { global = same_bytes entry.0 name || entry.1.global })

-- a label with what a directive says
abbrev pub label_with_directive : StmtKind → List ℕ × Label → List ℕ × Label
label_with_directive kind entry = (
  entry.0,
  record entry.1 {
    function = is_function_after entry.0 entry.1.function kind;
    global = global_by entry.0 kind || entry.1.global;
  },
)

-- a label with what the directives of statements say
abbrev pub label_with_directives : List Stmt → List ℕ × Label → List ℕ × Label
label_with_directives stmts entry = (
  entry.0,
  record entry.1 {
    function = function_from entry.0 entry.1.function stmts;
    global = list_any (λ s. global_by entry.0 s.kind) stmts || entry.1.global;
  },
)
