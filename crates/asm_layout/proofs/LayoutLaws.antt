-- Laws of the labels of a source, of the list of labels so far, and of the first of refusals.
use Rattle.std.proofs.Common.{◌≡◌, ℕ, Bool, true, false, ◌||◌, List, [], ◌∷◌, ◌++◌, map, Option, Some, None, option_map, is_some, inl, inr, refl, sym, ap, ◌∙◌, append_assoc, get_or, drop, length, nat_lt, not, ◌==◌, ◌<◌, ◌+◌, arith}
use Rattle.std.specs.List.{list_any, IsDistinct}
use Rattle.std.specs.Map.{lookup, set_value, keys_of}
use Rattle.std.proofs.Math.Bool.{or-false}
use Rattle.std.proofs.lemmas.Bool.{cases_Bool}
use Rattle.std.proofs.lemmas.Cmp.{nat_list_eq_equiv}
use Rattle.std.proofs.lemmas.List.{map-append, map-id, append-nil, drop_more}
use Rattle.std.proofs.lemmas.List.Folds.{list_any-append}
use Rattle.std.proofs.lemmas.Map.{NonePasses, none_passes_from_lookup}
use Rattle.std.proofs.lemmas.Map.Entries.{none_past_head}
use Rattle.std.proofs.lemmas.Map.Made.{is_some-lookup}
use Rattle.std.proofs.lemmas.Slice.Eq.{slice_eq-Decides}
use Rattle.std.proofs.lemmas.Bool.Decides.{Decides-eqb, nat_tests}
use Rattle.eh_word.specs.Names.{same_bytes}
use Rattle.asm_statements.specs.declared.statement.Stmt.{Stmt}
use Rattle.asm_statements.specs.declared.statement.StmtKind.{StmtKind}
use Rattle.asm_statements.specs.declared.statement.StmtKind.TheVariants.{Label as DefinesLabel, Size, TypeFunction, TypeObject, Global}
use Rattle.asm_unwind.specs.declared.entry.EntryWords.{EntryWords}
use Rattle.asm_layout.specs.declared.fault.AsmFault.{AsmFault}
use Rattle.asm_relocatable.specs.declared.place.Place.{Place}
use Rattle.asm_layout.specs.declared.labels.Label.{Label}
use Rattle.asm_layout.specs.PlacedStmt.{PlacedStmt}
use Rattle.asm_layout.specs.Placing.{place_stmts}
use Rattle.asm_layout.specs.declared.fault.AsmWhat.TheVariants.{DuplicateLabel}
use Rattle.asm_layout.specs.Faults.{fault_if, first_of_all}
use Rattle.asm_layout.proofs.FaultLaws.{first_after}
use Rattle.asm_layout.specs.Labels.{NamePlace, find, is_among, new_labels, labels_in, name_with_label, label_places, size_by, label_size, function_from, global_by, label_faults, names_after, duplicates_from}
use Rattle.asm_layout.specs.LabelSteps.{blank_label, label_with_size, labels_after, defines_again, label_with_directive, label_with_directives}

abbrev pub Entry : Type 0
Entry = List ℕ × Label

-- names

pub same_bytes-true : (a b : List ℕ) → same_bytes a b ≡ true → a ≡ b
same_bytes-true a b h = (slice_eq-Decides Decides-eqb a b (same_bytes a b) refl).0 h

-- the place of the first label that has a name, by the entries of a map
pub find-named_in : (q : List ℕ) (es : List Entry) → find q (label_places es) ≡ option_map (λ l. l.place) (lookup (same_bytes q) es)
unfolding find
find-named_in q [] = refl
find-named_in q (e ∷ es) = grind (arith, find-named_in q es)

-- lists

pub map_after : {A B C : Type 0} (g : B → C) (f : A → B) (xs : List A) → map g (map f xs) ≡ map (λ x. g (f x)) xs
map_after g f [] = refl
map_after g f (x ∷ xs) = λ j. g (f x) ∷ map_after g f xs j

-- the rest of a list from its next element on
pub drop-next : {A : Type 0} (xs : List A) (i : ℕ) (x : A) → i < length xs → x ≡ get_or xs i x → x ∷ drop (i + 1) xs ≡ drop i xs
drop-next xs i x in_section is = ap (λ y. y ∷ drop (i + 1) xs) is ∙ sym (drop_more xs i x in_section)

pub above-zero : (n : ℕ) → nat_lt 0 n ≡ not (n == 0)
above-zero n = grind (arith, nat_tests)

-- a name is there where a look-up finds it

pub is_among-named_in : (q : List ℕ) (es : List Entry) → is_among q (label_places es) ≡ is_some (lookup (same_bytes q) es)
is_among-named_in q es = ap (list_any (same_bytes q)) (map_after _ _ es) ∙ sym (is_some-lookup (same_bytes q) es)

-- a change of the label of one name, by whether an entry has it
module _ (q : List ℕ) (changed : Bool → Entry → Label) (kept : (e : Entry) → changed false e ≡ e.1) where
  abbrev change : Entry → Entry
  change e = (e.0, changed (same_bytes e.0 q) e)

  passed : (e : Entry) → same_bytes q e.0 ≡ false → e ≡ change e
  passed e s = λ j. (e.0, sym (ap (λ t. changed t e) (nat_list_eq_equiv.symm e.0 q ∙ s) ∙ kept e) j)

  map_unmatched : (es : List Entry) → NonePasses (same_bytes q) es → es ≡ map change es
  map_unmatched [] none = refl
  map_unmatched (e ∷ es) none = λ j. passed e none.0 j ∷ map_unmatched es none.1 j

  pub unchanged : (es : List Entry) → lookup (same_bytes q) es ≡ None → es ≡ map change es
  unchanged es none = map_unmatched es (none_passes_from_lookup _ es none)

  pub set_value-map : (es : List Entry) → IsDistinct same_bytes (keys_of es) → (v : Label) → lookup (same_bytes q) es ≡ Some v → set_value (same_bytes q) es (changed true (q, v)) ≡ map change es
  unfolding IsDistinct
  set_value-map [] distinct v is = absurd (cc)
  set_value-map (e ∷ es) distinct v is =
      elim (cases_Bool (same_bytes q e.0)) [
        | inl s ↦
            let hit : true ≡ same_bytes e.0 q = sym (nat_list_eq_equiv.symm e.0 q ∙ s) in
            let value : v ≡ e.1 = cc (rw s at is) in
            rw s (λ j. (e.0, changed (hit j) (same_bytes-true q e.0 s j, value j)) ∷ map_unmatched es (none_past_head nat_list_eq_equiv q e es distinct s) j)
        | inr s ↦ rw s (λ j. passed e s j ∷ set_value-map es distinct.1 v (rw s at is) j)
      ]

-- the labels after a statement

-- after a statement that is no label and no `.size`
pub nothing_said : (es : List Entry) (kind : StmtKind) (place : Place) → ((name : List ℕ) → kind ≡ DefinesLabel name → ⊥) → ((name : List ℕ) → kind ≡ Size name → ⊥)
    → (defines_again (label_places es) kind ≡ false) × (labels_after es kind place ≡ map (λ e. e) es ++ [])
nothing_said es (DefinesLabel name) place label size = absurd (label name refl)
nothing_said es (Size name) place label size = absurd (size name refl)
nothing_said es _ place label size = (refl, refl)

pub named_in-following : (es : List Entry) (kind : StmtKind) (place : Place) → label_places (labels_after es kind place) ≡ label_places es ++ new_labels (label_places es) kind place
named_in-following es kind place = simp (map-append, map_after, map-id)

-- names that aren't among labels

find-none : (q : List ℕ) (labels : List NamePlace) → is_among q labels ≡ false → find q labels ≡ None
unfolding find
find-none q [] free = refl
find-none q (l ∷ labels) free = grind (arith, find-none q labels)

size_by-unnamed : (q : List ℕ) (labels : List NamePlace) (kind : StmtKind) (place : Place) → is_among q labels ≡ false → size_by q labels 0 kind place ≡ 0
size_by-unnamed q labels (Size other) place free = grind (arith, find-none q labels)
size_by-unnamed q labels _ place free = refl

is_among-before : (q : List ℕ) (xs ys : List NamePlace) → is_among q (xs ++ ys) ≡ false → is_among q xs ≡ false
is_among-before q xs ys free = grind (arith, simp (map-append, list_any-append) at free)

-- the labels that statements define have no names that were there
new_alike : {B : Type 0} (f g : NamePlace → B) (labels : List NamePlace) (kind : StmtKind) (place : Place) → ((l : NamePlace) → is_among l.name labels ≡ false → f l ≡ g l) → map f (new_labels labels kind place) ≡ map g (new_labels labels kind place)
new_alike f g labels (DefinesLabel name) place alike = grind (arith, alike)
new_alike f g labels _ place alike = refl

labels_alike : {B : Type 0} (f g : NamePlace → B) (labels : List NamePlace) (rest : List PlacedStmt) → ((l : NamePlace) → is_among l.name labels ≡ false → f l ≡ g l) → map f (labels_in labels rest) ≡ map g (labels_in labels rest)
unfolding labels_in
labels_alike f g labels [] alike = refl
labels_alike f g labels (p ∷ more) alike =
    let new = new_labels labels p.stmt.kind p.at in
    simp map-append (λ i. new_alike f g labels p.stmt.kind p.at alike i ++ labels_alike f g (labels ++ new) more (λ l free. alike l (is_among-before l.name labels new free)) i)

-- the labels after statements
unfoldable pub labels_run : List Entry → List PlacedStmt → List Entry
labels_run es [] = es
labels_run es (p ∷ more) = labels_run (labels_after es p.stmt.kind p.at) more

-- a label of some size so far, with what the statements after say of its size
abbrev pub with_rest : List NamePlace → List PlacedStmt → Entry → Entry
with_rest labels rest e = (e.0, record e.1 { size = label_size e.0 labels e.1.size rest })

-- are those before with their sizes, and those that the statements define
pub labels_run-is : (es : List Entry) (rest : List PlacedStmt)
    → labels_run es rest ≡ map (with_rest (label_places es) rest) es ++ map (λ l. with_rest (label_places es) rest (blank_label l)) (labels_in (label_places es) rest)
unfolding labels_run labels_in label_size
labels_run-is es [] = sym (append-nil _ ∙ map-id es)
labels_run-is es (p ∷ more) =
    let labels = label_places es in
    let new = new_labels labels p.stmt.kind p.at in
    let tail = labels_in (labels ++ new) more in
    let now = with_rest labels (p ∷ more) in
    let after = with_rest (labels ++ new) more in
    let regrouped : map after (labels_after es p.stmt.kind p.at) ++ map (λ n. after (blank_label n)) tail ≡ map now es ++ map (λ n. after (blank_label n)) (new ++ tail) =
    simp (map-append, map_after, append_assoc) in
    labels_run-is (labels_after es p.stmt.kind p.at) more
    ∙ ap (λ l. map (with_rest l more) (labels_after es p.stmt.kind p.at) ++ map (λ n. with_rest l more (blank_label n)) (labels_in l more)) (named_in-following es p.stmt.kind p.at)
    ∙ regrouped
    ∙ ap (λ l. map now es ++ l) (sym (labels_alike (λ n. now (blank_label n)) (λ n. after (blank_label n)) labels (p ∷ more)
    (λ l free. ap (λ n. (l.name, record (blank_label l).1 { size = label_size l.name (labels ++ new) n more })) (size_by-unnamed l.name labels p.stmt.kind p.at free))))

-- what directives say

pub described_by-others : (es : List Entry) (kind : StmtKind) → ((name : List ℕ) → kind ≡ TypeFunction name → ⊥) → ((name : List ℕ) → kind ≡ TypeObject name → ⊥) → ((name : List ℕ) → kind ≡ Global name → ⊥) → map (label_with_directive kind) es ≡ map (λ e. e) es
described_by-others es (TypeFunction name) f o g = absurd (f name refl)
described_by-others es (TypeObject name) f o g = absurd (o name refl)
described_by-others es (Global name) f o g = absurd (g name refl)
described_by-others es _ f o g = refl

pub map-described-more : (s : Stmt) (more : List Stmt) (es : List Entry) → map (label_with_directives more) (map (label_with_directive s.kind) es) ≡ map (label_with_directives (s ∷ more)) es
unfolding function_from
map-described-more s more es =
    let turn : (a b c : Bool) → (a || (b || c)) ≡ ((b || a) || c) = λ a b c. grind arith in
    map_after _ _ es ∙ (λ i. map (λ e. (e.0, record (label_with_directives (s ∷ more) e).1 { global = turn (list_any (λ s. global_by e.0 s.kind) more) (global_by e.0 s.kind) e.1.global i })) es)

pub map-described-none : (es : List Entry) → map (label_with_directives []) es ≡ es
unfolding function_from
map-described-none es = map-id es

-- labels whose name is there

label_faults-are : (es : List Entry) (line : ℕ) (kind : StmtKind) → label_faults (keys_of es) line kind ≡ fault_if (defines_again (label_places es) kind) line DuplicateLabel
label_faults-are es line (DefinesLabel name) = simp map_after
label_faults-are es line _ = refl

names_after-are : (es : List Entry) (kind : StmtKind) (place : Place) → names_after (keys_of es) kind ≡ keys_of (labels_after es kind place)
names_after-are es (DefinesLabel name) place = simp (map-append, map_after) (grind (arith, append-nil (keys_of es)))
names_after-are es kind place = simp (append-nil, map_after)

-- one statement on
pub first_duplicate-more : (so_far : Option AsmFault) (es : List Entry) (s : Stmt) (place : Place) (more : List Stmt)
    → first_of_all (first_of_all so_far (fault_if (defines_again (label_places es) s.kind) s.line DuplicateLabel)) (duplicates_from (keys_of (labels_after es s.kind place)) more) ≡ first_of_all so_far (duplicates_from (keys_of es) (s ∷ more))
unfolding duplicates_from
first_duplicate-more so_far es s place more = simp (label_faults-are, names_after-are es s.kind place, first_after)

-- labels with their sizes and with what directives say are labels with all that is said of them
pub labelled-from_sized : (entries : List (Option EntryWords)) (stmts : List Stmt) (labels : List NamePlace) → map (label_with_directives stmts) (map (label_with_size (place_stmts entries stmts)) labels) ≡ map (name_with_label entries stmts) labels
labelled-from_sized entries stmts labels = simp (map_after, or-false)
