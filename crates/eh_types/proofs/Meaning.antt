-- A graph that roots mean is the only one, has what they reach, and is none where a fault is shown.
use Rattle.std.proofs.Common.{All, ◌≡◌, ℕ, ◌+◌, ◌<◌, ◌≤◌, true, false, nat_eq, List, [], ◌∷◌, ◌++◌, Option, Some, None, IsSome, Ok, Err, refl, sym, ◌∙◌, ap, inl, inr, arith}
use Rattle.std.specs.Prelude.{◌⊎◌, ◌↔◌}
use Rattle.std.proofs.lemmas.Bool.Decides.{nat_tests}
use Rattle.std.proofs.lemmas.Bool.{cases_lt, false≢true}
use Rattle.std.proofs.lemmas.List.Elements.{All-nil, All-cons}
use Rattle.elf_image.specs.Image.{Image}
use Rattle.eh_types.specs.declared.kind.Base.{Base}
use Rattle.eh_types.specs.declared.kind.TypeKind.TheVariants.{Pointer}
use Rattle.eh_types.specs.declared.fault.TypeFault.{TypeFault}
use Rattle.eh_types.specs.declared.fault.TypeFault.TheVariants.{Unreadable, Writable, NameTooLong, Cyclic, TooManyPaths, OutOfMemory}
use Rattle.eh_types.specs.Graph.{Row, Rise, row_of, bases_of, paths_within, path_count, IsCounted}
use Rattle.eh_types.specs.Types.{type_at}
use Rattle.eh_types.specs.Meant.{Among, types_of, pointees, IsReachedType, root, step, IsGraph, bases_by, IsBaseOf, one, more, Shows}
use Rattle.eh_types.proofs.Lookups.{none_below}
use Rattle.eh_types.proofs.Paths.{sum_same, term_below, paths_more, paths_converge, paths_same}

pub among_left : (xs ys : List ℕ) (a : ℕ) → Among xs a → Among (xs ++ ys) a
among_left [] ys a h = absurd h
among_left (x ∷ xs) ys a (inl e) = inl e
among_left (x ∷ xs) ys a (inr h) = inr (among_left xs ys a h)

pub among_right : (xs ys : List ℕ) (a : ℕ) → Among ys a → Among (xs ++ ys) a
among_right [] ys a h = h
among_right (x ∷ xs) ys a h = inr (among_right xs ys a h)

pub among_either : (xs ys : List ℕ) (a : ℕ) → Among (xs ++ ys) a → Among xs a ⊎ Among ys a
among_either [] ys a h = inr h
among_either (x ∷ xs) ys a (inl e) = inl (inl e)
among_either (x ∷ xs) ys a (inr h) = elim (among_either xs ys a h) [ inl left ↦ inl (inr left) | inr right ↦ inr right ]

-- ---- rows by address

test_same : (x : ℕ) → nat_eq x x ≡ true
test_same x = grind (arith, nat_tests)

test_not : (x y : ℕ) → (x ≡ y → ⊥) → nat_eq x y ≡ false
test_not x y h = grind (arith, nat_tests)

pub row_first : (r : Row) (g : List Row) → row_of (r ∷ g) r.at ≡ Some r
unfolding row_of
row_first r g = rw (test_same r.at) refl

pub row_rest : (r : Row) (g : List Row) (a : ℕ) → (r.at ≡ a → ⊥) → row_of (r ∷ g) a ≡ row_of g a
unfolding row_of
row_rest r g a other = rw (test_not r.at a other) refl

row_empty : (a : ℕ) → row_of [] a ≡ None
unfolding row_of
row_empty a = refl

rest_same : (r : Row) (g h : List Row) → Rise (r.at + 1) g → Rise (r.at + 1) h → ((a : ℕ) → row_of (r ∷ g) a ≡ row_of (r ∷ h) a) → (a : ℕ) → row_of g a ≡ row_of h a
rest_same r g h rise_g rise_h same a =
    elim (cases_lt r.at a) [
      | inl past ↦
          let other : r.at ≡ a → ⊥ = λ e. omega arith in
          sym (row_rest r g a other) ∙ same a ∙ row_rest r h a other
      | inr at ↦ none_below (r.at + 1) a g rise_g (omega arith) ∙ sym (none_below (r.at + 1) a h rise_h (omega arith))
    ]

head_same : (low other : ℕ) (r s : Row) (g h : List Row) → Rise low (r ∷ g) → Rise other (s ∷ h) → ((a : ℕ) → row_of (r ∷ g) a ≡ row_of (s ∷ h) a) → r ≡ s
head_same low other r s g h rise_g rise_h same =
    elim (cases_lt r.at s.at) [
      | inl below ↦
          let there = row_first r g in
          let not = none_below s.at r.at (s ∷ h) (omega arith, rise_h.1) below in
          let e = same r.at in
          cc
      | inr at ↦ elim (cases_lt s.at r.at) [
        | inl above ↦
            let there = row_first s h in
            let not = none_below r.at s.at (r ∷ g) (omega arith, rise_g.1) above in
            let e = same s.at in
            cc
        | inr eq ↦
            let place : r.at ≡ s.at = omega arith in
            let there = row_first r g in
            let here : row_of (s ∷ h) r.at ≡ Some s = rw place (row_first s h) in
            let e = same r.at in
            cc
      ]
    ]

-- rows that rise are the same where each look-up is
pub rows_same : (low other : ℕ) (g h : List Row) → Rise low g → Rise other h → ((a : ℕ) → row_of g a ≡ row_of h a) → g ≡ h
rows_same low other [] [] rise_g rise_h same = refl
rows_same low other [] (s ∷ h) rise_g rise_h same = let e = same s.at in let there = row_first s h in let not = row_empty s.at in absurd cc
rows_same low other (r ∷ g) [] rise_g rise_h same = let e = same r.at in let there = row_first r g in let not = row_empty r.at in absurd cc
rows_same low other (r ∷ g) (s ∷ h) rise_g rise_h same =
    let first = head_same low other r s g h rise_g rise_h same in
    let rise_h' : Rise (r.at + 1) h = rw first rise_h.1 in
    let same' = λ (a : ℕ). same a ∙ ap (λ (x : Row). row_of (x ∷ h) a) (sym first) in
    rw (first, rows_same (r.at + 1) (r.at + 1) g h rise_g.1 rise_h' (rest_same r g h rise_g.1 rise_h' same')) refl

-- ---- graphs

pub there_is : {X : Type 0} (o : Option X) → IsSome o → (x : X) × (o ≡ Some x)
there_is None h = absurd (false≢true h)
there_is (Some r) h = (r, refl)

pub is_there : {X : Type 0} (o : Option X) (x : X) → o ≡ Some x → IsSome o
is_there None r e = absurd cc
is_there (Some x) r e = refl

module _ (image : Image) (roots : List ℕ) (g : List Row) (h : IsGraph image roots g) where
  held_row : (a : ℕ) → IsSome (row_of g a) → (r : Row) × (row_of g a ≡ Some r) × (type_at image a ≡ Ok r)
  held_row a held = let f = there_is (row_of g a) held in (f.0, f.1, h.rows a f.0 f.1)

  pub reached_held : (a : ℕ) → IsReachedType image roots a → IsSome (row_of g a)
  reached_held _ (root a in_roots) = h.begins a in_roots
  reached_held _ (step a b r reached e leads) =
      let f = held_row a (reached_held a reached) in
      let same : r ≡ f.0 = let x = f.2 in cc in
      h.steps a b f.0 f.1 (rw (← same) leads)

  held_bases : (a : ℕ) → IsSome (row_of g a) → bases_by image a ≡ bases_of g a
  held_bases a held = let f = held_row a held in rw (f.1, f.2) refl

  held_base : (a b : ℕ) → IsSome (row_of g a) → Among (types_of (bases_by image a)) b → IsSome (row_of g b)
  held_base a b held among =
      let f = held_row a held in
      let in_row : Among (types_of f.0.bases) b = rw f.2 at among in
      h.steps a b f.0 f.1 (among_left (types_of f.0.bases) _ b in_row)

  fewer : (a b : ℕ) → IsSome (row_of g a) → Among (types_of (bases_by image a)) b → path_count g b < path_count g a
  fewer a b held among =
      let in_graph : Among (types_of (bases_of g a)) b = rw (held_bases a held) at among in
      omega (arith, h.sound.counted.counts a, term_below (path_count g) (bases_of g a) b in_graph)

  falls : (a b : ℕ) → IsSome (row_of g a) → IsBaseOf image b a → path_count g b < path_count g a
  falls _ _ held (one a b among) = fewer a b held among
  falls _ _ held (more a b c among rest) = omega (arith, fewer a b held among, falls b c (held_base a b held among) rest)

  pub held_paths : (steps a : ℕ) → IsSome (row_of g a) → paths_within (bases_by image) steps a ≡ paths_within (bases_of g) steps a
  held_paths = paths_same (bases_by image) (bases_of g) (λ a. IsSome (row_of g a)) held_bases held_base

  refused : (a : ℕ) (fault : TypeFault) → IsReachedType image roots a → type_at image a ≡ Err fault → ⊥
  refused a fault reached e = let f = held_row a (reached_held a reached) in let x = f.2 in cc

  too_many : (a : ℕ) → IsSome (row_of g a) → 256 < paths_within (bases_by image) 256 a → ⊥
  unfolding path_count
  too_many a held over = omega (arith, over, held_paths 256 a held, h.sound.counted.few a)

  pub none_shown : (fault : TypeFault) → Shows image roots fault → ⊥
  none_shown (Unreadable a) s = refused a (Unreadable a) s.0 s.1
  none_shown (Writable a) s = refused a (Writable a) s.0 s.1
  none_shown (NameTooLong a) s = refused a (NameTooLong a) s.0 s.1
  none_shown (Cyclic a) s = omega (arith, falls a a (reached_held a s.0) s.1)
  none_shown (TooManyPaths a) s = too_many a (reached_held a s.0) s.2
  none_shown OutOfMemory s = s

pub meant_held : (image : Image) (roots : List ℕ) (g : List Row) → IsGraph image roots g → (a : ℕ) → IsSome (row_of g a) ↔ IsReachedType image roots a
meant_held image roots g h a = (h.reached a, reached_held image roots g h a)

either_row : (image : Image) (roots : List ℕ) (g k : List Row) → IsGraph image roots g → IsGraph image roots k → (a : ℕ) (o p : Option Row) → row_of g a ≡ o → row_of k a ≡ p → o ≡ p
either_row image roots g k h i a None None e f = refl
either_row image roots g k h i a (Some r) (Some s) e f = let x = h.rows a r e in let y = i.rows a s f in cc
either_row image roots g k h i a None (Some s) e f =
    let held = there_is (row_of g a) (reached_held image roots g h a (i.reached a (is_there (row_of k a) s f))) in let x = held.1 in absurd cc
either_row image roots g k h i a (Some r) None e f =
    let held = there_is (row_of k a) (reached_held image roots k i a (h.reached a (is_there (row_of g a) r e))) in let x = held.1 in absurd cc

pub meant_same : (image : Image) (roots : List ℕ) (g k : List Row) → IsGraph image roots g → IsGraph image roots k → g ≡ k
meant_same image roots g k h i =
    rows_same 0 0 g k h.sound.rise i.sound.rise (λ a. either_row image roots g k h i a (row_of g a) (row_of k a) refl refl)

-- ---- counts

-- a graph is counted where no type has too many paths
pub counted : (g : List Row) → ((a : ℕ) → paths_within (bases_of g) 256 a ≤ 256) → IsCounted g (path_count g)
unfolding path_count
counted g few = record {
  counts = λ a.
      paths_more (bases_of g) 255 a
      ∙ ap (λ n. 1 + n) (sum_same (paths_within (bases_of g) 255) (paths_within (bases_of g) 256) (bases_of g a) (λ b among. paths_converge (bases_of g) 255 b (few b)));
  few = few;
}

pub fault_no_graph : (image : Image) (roots : List ℕ) (fault : TypeFault) → Shows image roots fault → (g : List Row) → IsGraph image roots g → ⊥
fault_no_graph image roots fault s g h = none_shown image roots g h fault s

pub own_base_none : (image : Image) (roots : List ℕ) (g : List Row) → IsGraph image roots g → (a : ℕ) → IsSome (row_of g a) → IsBaseOf image a a → ⊥
own_base_none image roots g h a held own = none_shown image roots g h (Cyclic a) (h.reached a held, own)

all_held : (P : ℕ → Type 0) (bs : List Base) → ((a : ℕ) → Among (types_of bs) a → P a) → All (λ (b : Base). P b.ty) bs
all_held P [] h = All-nil (λ (b : Base). P b.ty)
all_held P (b ∷ bs) h = All-cons (λ (b : Base). P b.ty) b bs (h b.ty (inl refl)) (all_held P bs (λ a in_bs. h a (inr in_bs)))

pub leads_held : (image : Image) (roots : List ℕ) (g : List Row) → IsGraph image roots g → (a : ℕ) (r : Row) → row_of g a ≡ Some r
    → All (λ (b : Base). IsSome (row_of g b.ty)) r.bases × ((flags pointee : ℕ) → r.kind ≡ Pointer flags pointee → IsSome (row_of g pointee))
leads_held image roots g h a r e = (
  all_held (λ b. IsSome (row_of g b)) r.bases (λ b among. h.steps a b r e (among_left (types_of r.bases) (pointees r.kind) b among)),
  λ flags pointee k. h.steps a pointee r e (among_right (types_of r.bases) (pointees r.kind) pointee (rw k (inl refl))),
)
