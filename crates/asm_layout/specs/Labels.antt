-- The labels of a source, and what its directives say of them (docs/rules/sources.md, "Names" and "Symbols").
use Rattle.std.specs.Prelude.{ℕ, ◌-◌, Bool, true, false, if◌then◌else◌, List, [], ◌∷◌, ◌++◌, map, Option, Some, None}
use Rattle.std.specs.List.{list_any}
use Rattle.eh_word.specs.Names.{same_bytes}
use Rattle.asm_statements.specs.declared.statement.Stmt.{Stmt}
use Rattle.asm_statements.specs.declared.statement.StmtKind.{StmtKind}
use Rattle.asm_statements.specs.declared.statement.StmtKind.TheVariants as stmt
use Rattle.asm_unwind.specs.declared.entry.EntryWords.{EntryWords}
use Rattle.asm_relocatable.specs.declared.place.Place.{Place}
use Rattle.asm_layout.specs.declared.labels.Label.{Label}
use Rattle.asm_layout.specs.declared.fault.AsmFault.{AsmFault}
use Rattle.asm_layout.specs.declared.fault.AsmWhat.TheVariants.{DuplicateLabel, SectionTooLarge}
use Rattle.asm_layout.specs.Faults.{fault_if}
use Rattle.asm_layout.specs.Sizes.{is_too_large}
use Rattle.asm_layout.specs.declared.walk.Walk.{Walk}
use Rattle.asm_layout.specs.PlacedStmt.{PlacedStmt}
use Rattle.asm_layout.specs.Placing.{place_stmts_from}
use Rattle.asm_layout.specs.Walks.{start, next, sizes_with_pool}
use Rattle.asm_relocatable.specs.Sections.{same_section}

-- a name at its place
pub record NamePlace : Type 0 where
  pub name : List ℕ
  pub place : Place

abbrev pub name_with_place : List ℕ → Place → NamePlace
name_with_place name place = record { name = name; place = place }

-- the first of some labels that has a name
unfoldable pub find : List ℕ → List NamePlace → Option Place
find name [] = None
find name (label ∷ more) = if same_bytes name label.name then Some label.place else find name more

abbrev pub is_among : List ℕ → List NamePlace → Bool
is_among name labels = list_any (same_bytes name) (map (λ label. label.name) labels)

abbrev pub label_unless : Bool → List ℕ → Place → List NamePlace
label_unless there name place = if there then [] else name_with_place name place ∷ []

-- the label that a statement adds to some labels; a name that is taken adds none
abbrev pub new_labels : List NamePlace → StmtKind → Place → List NamePlace
new_labels labels (stmt.Label name) place = label_unless (is_among name labels) name place
new_labels labels _ place = []

-- the labels that statements add, in the order of the text, each at the place of the statement after it
unfoldable pub labels_in : List NamePlace → List PlacedStmt → List NamePlace
labels_in labels [] = []
labels_in labels (placed ∷ more) =
    new_labels labels placed.stmt.kind placed.at
    ++ labels_in (labels ++ new_labels labels placed.stmt.kind placed.at) more

abbrev pub labels_from : List (Option EntryWords) → List NamePlace → Walk → List Stmt → List NamePlace
labels_from entries labels walk stmts = labels_in labels (place_stmts_from entries walk stmts)

abbrev pub labels_of : List (Option EntryWords) → List Stmt → List NamePlace
labels_of entries stmts = labels_from entries [] start stmts

-- a `.size` later in the section than its label gives the bytes between them; any other gives 0
abbrev pub size_between : Option Place → Place → ℕ
size_between None end = 0
size_between (Some label) end = if same_section label.section end.section then end.offset - label.offset else 0

abbrev pub size_by : List ℕ → List NamePlace → ℕ → StmtKind → Place → ℕ
size_by name labels so_far (stmt.Size other) place =
    if same_bytes name other then size_between (find name labels) place else so_far
size_by name labels so_far _ place = so_far

-- the size of a name's label: that of the last `.size` of the name, measured from the label before it
unfoldable pub label_size : List ℕ → List NamePlace → ℕ → List PlacedStmt → ℕ
label_size name labels so_far [] = so_far
label_size name labels so_far (placed ∷ more) =
    label_size name (labels ++ new_labels labels placed.stmt.kind placed.at)
    (size_by name labels so_far placed.stmt.kind placed.at) more

abbrev pub size_from : List ℕ → List (Option EntryWords) → List NamePlace → ℕ → Walk → List Stmt → ℕ
size_from name entries labels so_far walk stmts = label_size name labels so_far (place_stmts_from entries walk stmts)

abbrev pub is_function_after : List ℕ → Bool → StmtKind → Bool
is_function_after name so_far (stmt.TypeFunction other) = if same_bytes name other then true else so_far
is_function_after name so_far (stmt.TypeObject other) = if same_bytes name other then false else so_far
is_function_after name so_far _ = so_far

-- the last `.type` of a name says whether it is a function
unfoldable pub function_from : List ℕ → Bool → List Stmt → Bool
function_from name so_far [] = so_far
function_from name so_far (stmt ∷ more) = function_from name (is_function_after name so_far stmt.kind) more

abbrev pub global_by : List ℕ → StmtKind → Bool
global_by name (stmt.Global other) = same_bytes name other
global_by name _ = false

-- what the directives say of a label
abbrev pub label_of : List (Option EntryWords) → List Stmt → NamePlace → Label
label_of entries stmts label = record {
  place = label.place;
  size = size_from label.name entries [] 0 start stmts;
  function = function_from label.name false stmts;
  global = list_any (λ s. global_by label.name s.kind) stmts;
}

abbrev pub name_with_label : List (Option EntryWords) → List Stmt → NamePlace → List ℕ × Label
name_with_label entries stmts label = (label.name, label_of entries stmts label)

-- labels without what directives say
abbrev pub label_places : List (List ℕ × Label) → List NamePlace
label_places labels = map (λ label. name_with_place label.0 label.1.place) labels

abbrev pub stmt_of : PlacedStmt → Stmt
stmt_of placed = placed.stmt

-- a label whose name is taken
abbrev pub label_faults : List (List ℕ) → ℕ → StmtKind → List AsmFault
label_faults names line (stmt.Label name) =
    fault_if (list_any (same_bytes name) names) line DuplicateLabel
label_faults names line _ = []

-- the names after a statement, each once
abbrev pub names_after : List (List ℕ) → StmtKind → List (List ℕ)
names_after names (stmt.Label name) = if list_any (same_bytes name) names then names else names ++ name ∷ []
names_after names _ = names

unfoldable pub duplicates_from : List (List ℕ) → List Stmt → List AsmFault
duplicates_from names [] = []
duplicates_from names (stmt ∷ more) =
    label_faults names stmt.line stmt.kind ++ duplicates_from (names_after names stmt.kind) more

-- a line after which a section is too large; after the last one the pool at the end of the text counts too
unfoldable pub too_large_from : List (Option EntryWords) → Walk → ℕ → List Stmt → List AsmFault
too_large_from entries walk last [] = fault_if (is_too_large (sizes_with_pool walk)) last SectionTooLarge
too_large_from entries walk last (stmt ∷ more) =
    fault_if (is_too_large (next entries walk stmt.kind).at.sizes) stmt.line SectionTooLarge
    ++ too_large_from entries (next entries walk stmt.kind) stmt.line more
