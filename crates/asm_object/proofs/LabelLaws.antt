-- A label's symbol stands where the statements before the label end.
use Rattle.std.proofs.Common.{◌≡◌, ℕ, ◌%◌, ◌^◌, ◌≤◌, ◌<◌, true, false, cond, List, [], ◌∷◌, ◌++◌, length, map, Option, Some, option_map, refl, sym, ap, ◌∙◌, arith, append-nil, append_assoc}
use Rattle.std.proofs.lemmas.Bool.{or_parts}
use Rattle.std.proofs.lemmas.List.{map-append}
use Rattle.std.proofs.lemmas.List.Folds.{list_any-append}
use Rattle.std.proofs.lemmas.Cmp.{nat_list_eq_equiv}
use Rattle.eh_word.specs.Names.{same_bytes}
use Rattle.asm_statements.specs.declared.statement.Stmt.{Stmt}
use Rattle.asm_statements.specs.declared.statement.StmtKind.{StmtKind}
use Rattle.asm_statements.specs.declared.statement.StmtKind.TheVariants.{Label}
use Rattle.asm_unwind.specs.declared.entry.EntryWords.{EntryWords}
use Rattle.asm_layout.specs.declared.fault.AsmWhat.TheVariants.{DuplicateLabel}
use Rattle.asm_relocatable.specs.declared.place.Place.{Place}
use Rattle.asm_relocatable.specs.declared.place.Section.{Section}
use Rattle.asm_layout.specs.declared.walk.Walk.{Walk}
use Rattle.asm_layout.specs.declared.walk.TheConstants.{MOST_BYTES}
use Rattle.asm_layout.specs.Functions.{entries_of, no_frame}
use Rattle.asm_layout.specs.Labels.{NamePlace, find, is_among, label_unless, new_labels, labels_from, labels_of, name_with_label, label_faults, names_after, duplicates_from, labels_in}
use Rattle.asm_layout.specs.Sizes.{size_in, is_too_large}
use Rattle.asm_layout.specs.Walks.{start, next, cursor_place, walk_after, sizes_with_pool}
use Rattle.asm_relocatable.specs.declared.object.Object.{Object}
use Rattle.asm_object.specs.Objects.{assembled_object, symbol_of}
use Rattle.asm_object.specs.ObjectLaw.{symbol_place, SymbolsStandAtTheirLabels}
use Rattle.asm_object.proofs.PlaceLaws.{law_of_ends, none_after, walks_on, not_large}
use Rattle.asm_object.proofs.ObjectLaws.{IsTaken, taken, ends_small, entries_count, both_none, fault_none}
use Rattle.asm_layout.specs.Placing.{place_stmts_from}
use Rattle.asm_object.specs.After.{refusals_from}

abbrev pub names_of : List NamePlace → List (List ℕ)
names_of labels = map (λ label. label.name) labels

-- ---- the labels before a statement

-- names and labels go on together
names_go_on : (labels : List NamePlace) (kind : StmtKind) (place : Place)
    → names_after (names_of labels) kind ≡ names_of (labels ++ new_labels labels kind place)
names_go_on labels (Label name) place =
    elim (is_among name labels) as (λ b. cond b (names_of labels) (names_of labels ++ name ∷ []) ≡ names_of (labels ++ label_unless b name place)) [
      | true ↦ rw append-nil
      | false ↦ rw map-append
    ]
names_go_on labels _ place = ap names_of (sym (append-nil labels))

-- a label that is no duplicate is not among those before it
pub new_there : (entries : List (Option EntryWords)) (labels : List NamePlace) (walk : Walk) (before : List Stmt) (line : ℕ) (name : List ℕ) (more : List Stmt)
    → duplicates_from (names_of labels) (before ++ record { line = line; kind = Label name } ∷ more) ≡ []
    → is_among name (labels ++ labels_from entries labels walk before) ≡ false
unfolding duplicates_from labels_in place_stmts_from
new_there entries labels walk [] line name more e =
    ap (λ ls. is_among name ls) (append-nil labels)
    ∙ fault_none (is_among name labels) line DuplicateLabel (both_none (label_faults (names_of labels) line (Label name)) _ e).0
new_there entries labels walk (stmt ∷ before) line name more e =
    let new = new_labels labels stmt.kind (cursor_place walk.at) in
    let rest = both_none (label_faults (names_of labels) stmt.line stmt.kind) (duplicates_from (names_after (names_of labels) stmt.kind) (before ++ record { line = line; kind = Label name } ∷ more)) e in
    ap (λ ls. is_among name ls) (sym (append_assoc labels new (labels_from entries (labels ++ new) (next entries walk stmt.kind) before)))
    ∙ new_there entries (labels ++ new) (next entries walk stmt.kind) before line name more (rw (names_go_on labels stmt.kind (cursor_place walk.at)) at rest.1)

-- ---- where labels are found

among_parts : (name : List ℕ) (xs ys : List NamePlace) → is_among name (xs ++ ys) ≡ false → (is_among name xs ≡ false) × (is_among name ys ≡ false)
among_parts name xs ys e = or_parts (is_among name xs) (is_among name ys) (rw (map-append, list_any-append) at e)

find_skip : (name : List ℕ) (front more : List NamePlace) → is_among name front ≡ false → find name (front ++ more) ≡ find name more
unfolding find
find_skip name [] more e = refl
find_skip name (label ∷ front) more e =
    let parts = or_parts (same_bytes name label.name) (is_among name front) e in
    rw parts.0 (find_skip name front more parts.1)

abbrev pub label_stmt : ℕ → List ℕ → Stmt
label_stmt line name = record { line = line; kind = Label name }

-- labels from a place of the walk on: the label is found where the statements before it end
pub label_there : (entries : List (Option EntryWords)) (labels : List NamePlace) (walk : Walk) (before : List Stmt) (line : ℕ) (name : List ℕ) (more : List Stmt)
    → is_among name (labels ++ labels_from entries labels walk before) ≡ false
    → find name (labels_from entries labels walk (before ++ label_stmt line name ∷ more)) ≡ Some (cursor_place (walk_after entries walk before).at)
unfolding labels_in place_stmts_from walk_after find
label_there entries labels walk [] line name more e =
    rw ((among_parts name labels [] e).0, nat_list_eq_equiv.refl name)
label_there entries labels walk (stmt ∷ before) line name more e =
    let new = new_labels labels stmt.kind (cursor_place walk.at) in
    let later = labels_from entries (labels ++ new) (next entries walk stmt.kind) before in
    let whole : is_among name (labels ++ new ++ later) ≡ false = ap (λ ls. is_among name ls) (append_assoc labels new later) ∙ e in
    let own = (among_parts name labels new (among_parts name (labels ++ new) later whole).0).1 in
    find_skip name new (labels_from entries (labels ++ new) (next entries walk stmt.kind) (before ++ label_stmt line name ∷ more)) own
    ∙ label_there entries (labels ++ new) (next entries walk stmt.kind) before line name more whole

-- ---- symbols

low : Place → Place
low place = record { section = place.section; offset = place.offset % 2 ^ 32 }

symbols_find : (entries : List (Option EntryWords)) (stmts : List Stmt) (name : List ℕ) (labels : List NamePlace)
    → symbol_place name (map (λ label. symbol_of (name_with_label entries stmts label)) labels) ≡ option_map low (find name labels)
unfolding find low
symbols_find entries stmts name [] = refl
symbols_find entries stmts name (label ∷ more) =
    let rest = symbols_find entries stmts name more in
    grind (arith, rest)

small_place : (place : Place) → place.offset ≤ MOST_BYTES → low place ≡ place
unfolding low
small_place place h =
    let same : place.offset % 2 ^ 32 ≡ place.offset = omega (arith, h) in
    rw same

-- the place after statements, more of which follow, is small
pub small_after : (entries : List (Option EntryWords)) (labels : List NamePlace) (before more : List Stmt) (section : Section) → length entries < 2 ^ 64
    → refusals_from entries labels start (before ++ more) ≡ [] → is_too_large (sizes_with_pool (walk_after entries start (before ++ more))) ≡ false
    → size_in (walk_after entries start before).at.sizes section ≤ MOST_BYTES
small_after entries labels before more section few r h =
    let walk = walk_after entries start before in
    let ends = rw (walks_on entries start before more) at h in
    omega (arith, law_of_ends entries labels walk more section few (none_after entries labels start before more r) ends, not_large (sizes_with_pool (walk_after entries walk more)) section ends)

joined_symbols : (before more : List Stmt) (line : ℕ) (name : List ℕ) (object : Object)
    → let stmts = before ++ label_stmt line name ∷ more in
    length stmts < 2 ^ 64 → IsTaken stmts object → symbol_place name (assembled_object stmts).symbols ≡ Some (cursor_place (walk_after (entries_of stmts) start before).at)
unfolding assembled_object
joined_symbols before more line name object few t =
    let stmts = before ++ label_stmt line name ∷ more in
    let entries = entries_of stmts in
    let labels = labels_of entries stmts in
    let place = cursor_place (walk_after entries start before).at in
    let fewer : length entries < 2 ^ 64 = omega (arith, few, entries_count no_frame stmts) in
    let there = label_there entries [] start before line name more (new_there entries [] start before line name more t.unique) in
    let small = small_after entries labels before (label_stmt line name ∷ more) place.section fewer t.unrefused (ends_small entries start 0 stmts t.small) in
    symbols_find entries stmts name labels ∙ rw (there, small_place place small)

pub law_of_symbols : SymbolsStandAtTheirLabels
law_of_symbols before more line name object few e =
    let t = taken (before ++ label_stmt line name ∷ more) object e in
    rw t.object_is (joined_symbols before more line name object few t)
