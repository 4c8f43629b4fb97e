-- The last `.size` of a name gives its symbol's size.
use Rattle.asm_layout.specs.declared.walk.TheConstants.{MOST_BYTES}
use Rattle.std.proofs.Common.{◌≡◌, ℕ, ◌-◌, ◌%◌, ◌^◌, ◌≤◌, true, false, cond, List, [], ◌∷◌, ◌++◌, Option, Some, refl, sym, ap, ◌∙◌, arith, append-nil, append_assoc, subst}
use Rattle.std.specs.List.{list_any}
use Rattle.std.proofs.lemmas.Bool.{or_parts}
use Rattle.std.proofs.lemmas.Cmp.{nat_list_eq_equiv}
use Rattle.asm_statements.specs.declared.statement.Stmt.{Stmt}
use Rattle.asm_statements.specs.declared.statement.StmtKind.{StmtKind}
use Rattle.asm_statements.specs.declared.statement.StmtKind.TheVariants.{Size}
use Rattle.asm_unwind.specs.declared.entry.EntryWords.{EntryWords}
use Rattle.asm_relocatable.specs.declared.place.Place.{Place}
use Rattle.asm_relocatable.specs.declared.place.Section.{Section}
use Rattle.asm_relocatable.specs.declared.place.Section.TheVariants.{Text, Rodata, Extab, Init, Bss}
use Rattle.asm_layout.specs.declared.walk.Walk.{Walk}
use Rattle.asm_layout.specs.Functions.{entries_of, no_frame}
use Rattle.asm_layout.specs.Labels.{NamePlace, find, new_labels, labels_from, labels_of, duplicates_from, size_between, size_by, size_from, labels_in, label_size}
use Rattle.asm_layout.specs.Walks.{start, next, cursor_place, walk_after}
use Rattle.asm_relocatable.specs.Sections.{same_section}
use Rattle.asm_object.proofs.ObjectLaws.{taken, ends_small, entries_count}
use Rattle.asm_object.proofs.LabelLaws.{new_there, label_there, small_after}
use Rattle.asm_laws.specs.RowLaw.{walk_over}
use Rattle.asm_laws.specs.SymbolLaw.{HasNone}
use Rattle.asm_laws.specs.SizeLaw.{is_size, label_at, size_at, SizesCountBytes, OthersHaveNoSize}
use Rattle.asm_laws.proofs.Standing.{fewer}
use Rattle.asm_laws.proofs.Symbols.{each_named}
use Rattle.asm_layout.specs.Placing.{place_stmts_from}

-- ---- sizes

not_sized : (name : List ℕ) (labels : List NamePlace) (size : ℕ) (kind : StmtKind) (place : Place) → is_size name kind ≡ false → size_by name labels size kind place ≡ size
not_sized name labels size (Size other) place e = ap (λ b. cond b (size_between (find name labels) place) size) e
not_sized name labels size _ place e = refl

unsized : (name : List ℕ) (entries : List (Option EntryWords)) (labels : List NamePlace) (size : ℕ) (walk : Walk) (stmts : List Stmt) → HasNone (is_size name) stmts
    → size_from name entries labels size walk stmts ≡ size
unfolding label_size place_stmts_from
unsized name entries labels size walk [] e = refl
unsized name entries labels size walk (stmt ∷ more) e =
    let parts = or_parts (is_size name stmt.kind) (list_any (λ s. is_size name s.kind) more) e in
    let after = labels ++ new_labels labels stmt.kind (cursor_place walk.at) in
    ap (λ n. size_from name entries after n (next entries walk stmt.kind) more) (not_sized name labels size stmt.kind (cursor_place walk.at) parts.0)
    ∙ unsized name entries after size (next entries walk stmt.kind) more parts.1

-- the size after a statement, by the labels before it
abbrev size_after : List ℕ → List (Option EntryWords) → List NamePlace → ℕ → Walk → Stmt → List Stmt → ℕ
size_after name entries labels size walk stmt more =
    size_from name entries (labels ++ new_labels labels stmt.kind (cursor_place walk.at)) (size_by name labels size stmt.kind (cursor_place walk.at)) (next entries walk stmt.kind) more

size_split : (name : List ℕ) (entries : List (Option EntryWords)) (labels : List NamePlace) (size : ℕ) (walk : Walk) (front : List Stmt) (stmt : Stmt) (more : List Stmt)
    → size_from name entries labels size walk (front ++ stmt ∷ more)
    ≡ size_after name entries (labels ++ labels_from entries labels walk front) (size_from name entries labels size walk front) (walk_after entries walk front) stmt more
unfolding label_size place_stmts_from labels_in walk_after
size_split name entries labels size walk [] stmt more = ap (λ ls. size_after name entries ls size walk stmt more) (sym (append-nil labels))
size_split name entries labels size walk (x ∷ front) stmt more =
    let new = new_labels labels x.kind (cursor_place walk.at) in
    let after = next entries walk x.kind in
    let own = size_by name labels size x.kind (cursor_place walk.at) in
    size_split name entries (labels ++ new) own after front stmt more
    ∙ ap (λ ls. size_after name entries ls (size_from name entries (labels ++ new) own after front) (walk_after entries after front) stmt more)
    (append_assoc labels new (labels_from entries (labels ++ new) after front))

same_there : (s t : Section) → s ≡ t → same_section s t ≡ true
same_there s t e = let P : Section → Type 0 = λ u. same_section s u ≡ true in subst P e (itself s)
  where
    itself : (s : Section) → same_section s s ≡ true
    itself Text = refl
    itself Rodata = refl
    itself Extab = refl
    itself Init = refl
    itself Bss = refl

own_size : (name : List ℕ) (labels : List NamePlace) (size : ℕ) (label end : Place) → find name labels ≡ Some label → label.section ≡ end.section
    → size_by name labels size (Size name) end ≡ end.offset - label.offset
own_size name labels size label end found same =
    ap (λ b. cond b (size_between (find name labels) end) size) (nat_list_eq_equiv.refl name)
    ∙ ap (λ o. size_between o end) found
    ∙ ap (λ b. cond b (end.offset - label.offset) 0) (same_there label.section end.section same)

low : (a b : ℕ) → a ≤ MOST_BYTES → (a - b) % 2 ^ 32 ≡ a - b
low a b h = omega (arith, h)

pub law_of_sizes : SizesCountBytes
law_of_sizes before between more line last name object few e none same =
    let front = before ++ label_at line name ∷ between in
    let stmts = front ++ size_at last name ∷ more in
    let entries = entries_of stmts in
    let t = taken stmts object e in
    let regrouped : stmts ≡ before ++ label_at line name ∷ (between ++ size_at last name ∷ more) = append_assoc before (label_at line name ∷ between) (size_at last name ∷ more) in
    let D : List Stmt → Type 0 = λ s. duplicates_from [] s ≡ [] in
    let found : find name (labels_from entries [] start front) ≡ Some (cursor_place (walk_over stmts before).at) =
    label_there entries [] start before line name between (new_there entries [] start before line name (between ++ size_at last name ∷ more) (subst D regrouped t.unique)) in
    let end = cursor_place (walk_over stmts front).at in
    let small = small_after entries (labels_of entries stmts) front (size_at last name ∷ more) end.section (fewer _ _ (entries_count no_frame stmts) few) t.unrefused (ends_small entries start 0 stmts t.small) in
    let size : size_from name entries [] 0 start stmts ≡ end.offset - (cursor_place (walk_over stmts before).at).offset =
    size_split name entries [] 0 start front (size_at last name) more
    ∙ unsized name entries _ _ (next entries (walk_over stmts front) (Size name)) more none
    ∙ own_size name (labels_from entries [] start front) (size_from name entries [] 0 start front) (cursor_place (walk_over stmts before).at) end found same in
    each_named (λ symbol. symbol.size ≡ end.offset - (cursor_place (walk_over stmts before).at).offset) stmts name object t.object_is
    (λ label is. ap (λ n. size_from n entries [] 0 start stmts % 2 ^ 32) (sym is) ∙ ap (λ n. n % 2 ^ 32) size ∙ low end.offset (cursor_place (walk_over stmts before).at).offset small)

pub law_of_no_size : OthersHaveNoSize
law_of_no_size stmts name object e none =
    let entries = entries_of stmts in
    each_named (λ symbol. symbol.size ≡ 0) stmts name object (taken stmts object e).object_is
    (λ label is. ap (λ n. size_from n entries [] 0 start stmts % 2 ^ 32) (sym is) ∙ ap (λ n. n % 2 ^ 32) (unsized name entries [] 0 start stmts none))
