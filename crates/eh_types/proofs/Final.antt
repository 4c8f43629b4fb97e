-- What has been read at the end is the graph that the roots mean.
use Rattle.std.proofs.Common.{◌≡◌, ℕ, ◌+◌, ◌≤◌, Bool, true, false, nat_eq, List, [], ◌∷◌, map, Option, Some, None, IsSome, option_map, Ok, refl, sym, ◌∙◌, ap, subst, inl, inr, arith}
use Rattle.std.specs.Prelude.{◌⊎◌}
use Rattle.std.proofs.lemmas.Bool.Decides.{nat_tests}
use Rattle.std.proofs.lemmas.Bool.{cases_eq, false≢true}
use Rattle.std.specs.Map.{values_of, keys_of}
use Rattle.std.specs.Ordering.{nat_cmp}
use Rattle.std.specs.List.Sorted.{IsStrictlySortedBy}
use Rattle.elf_image.specs.Segments.{Segment}
use Rattle.elf_image.specs.Image.{Image}
use Rattle.elf_image.proofs.Entries.{Rising, rising_from_sorted, at_key, lookup_below, lookup_first, lookup_rest}
use Rattle.eh_types.specs.declared.state.CountedType.{CountedType}
use Rattle.eh_types.specs.declared.state.Frame.{Frame}
use Rattle.eh_types.specs.Graph.{Row, Rise, row_of, bases_of, paths_within}
use Rattle.eh_types.specs.Types.{row_in, rows_in, type_at}
use Rattle.eh_types.specs.Meant.{Among, types_of, pointees, leads_to, bases_by, IsGraph}
use Rattle.eh_types.specs.Reading.{Reading}
use Rattle.eh_types.proofs.Paths.{paths_more, paths_same}
use Rattle.eh_types.proofs.Meaning.{among_left, among_either, there_is, is_there, counted}
use Rattle.eh_types.proofs.Steps.{row_is}

-- what is kept of each, and with its bases
abbrev pub infos : List (ℕ × CountedType) → List Row
infos es = map (λ (d : CountedType). d.info) (values_of es)

abbrev row_by : List Segment → CountedType → Row
row_by segments d = row_in segments d.info

abbrev rows_by : List Segment → List (ℕ × CountedType) → List Row
rows_by segments es = rows_in segments (infos es)

-- each stands at its address
Keyed : List (ℕ × CountedType) → Type 0
Keyed [] = Unit {0}
Keyed (e ∷ es) = (e.1.info.at ≡ e.0) × Keyed es

keyed : (low : ℕ) (es : List (ℕ × CountedType)) → Rising low es → ((a : ℕ) (d : CountedType) → at_key a es ≡ Some d → d.info.at ≡ a) → Keyed es
unfolding Keyed
keyed low [] rise each = tt
keyed low (e ∷ es) rise each = (each e.0 e.1 (lookup_first e.0 e es refl), keyed (e.0 + 1) es rise.1 (λ a d h. by_place a d h (cases_eq a e.0)))
  where
    by_place : (a : ℕ) (d : CountedType) → at_key a es ≡ Some d → (a ≡ e.0) ⊎ (a ≡ e.0 → ⊥) → d.info.at ≡ a
    by_place a d h (inl here) = let none = lookup_below a (e.0 + 1) es (omega arith) rise.1 in absurd cc
    by_place a d h (inr other) = each a d (lookup_rest a e es other ∙ h)

row_at : (segments : List Segment) (es : List (ℕ × CountedType)) → Keyed es → (a : ℕ) → row_of (rows_by segments es) a ≡ option_map (row_by segments) (at_key a es)
unfolding Keyed row_of
row_at segments [] k a = refl
row_at segments (e ∷ es) k a =
    elim (cases_eq a e.0) [
      | inl here ↦
          let place : nat_eq e.1.info.at a ≡ true = test_eq e.1.info.at a (omega (arith, k.0, here)) in
          rw (place, lookup_first a e es here) refl
      | inr other ↦
          let place : nat_eq e.1.info.at a ≡ false = test_ne e.1.info.at a (λ s. other (sym s ∙ k.0)) in
          rw (place, lookup_rest a e es other) (row_at segments es k.1 a)
    ]
  where
    test_eq : (x y : ℕ) → x ≡ y → nat_eq x y ≡ true
    test_eq x y h = grind (arith, nat_tests)

    test_ne : (x y : ℕ) → (x ≡ y → ⊥) → nat_eq x y ≡ false
    test_ne x y h = grind (arith, nat_tests)

rows_rise : (segments : List Segment) (low : ℕ) (es : List (ℕ × CountedType)) → Rising low es → Keyed es → Rise low (rows_by segments es)
unfolding Keyed
rows_rise segments low [] rise k = tt
rows_rise segments low (e ∷ es) rise k = (omega (arith, rise.0, k.0), rw k.0 (rows_rise segments (e.0 + 1) es rise.1 k.1))

one_some : (r s : Row) → Some r ≡ Some s → r ≡ s
one_some r s e = cc

row_by_of : (segments : List Segment) (o : Option CountedType) (r : Row) → option_map (row_by segments) o ≡ Some r → (d : CountedType) × (o ≡ Some d) × (row_by segments d ≡ r)
row_by_of segments None r e = absurd cc
row_by_of segments (Some d) r e = (d, refl, one_some (row_by segments d) r e)

some_row : (segments : List Segment) (o : Option CountedType) → IsSome o → IsSome (option_map (row_by segments) o)
some_row segments None h = absurd (false≢true h)
some_row segments (Some d) h = refl

row_some : (segments : List Segment) (o : Option CountedType) → IsSome (option_map (row_by segments) o) → IsSome o
row_some segments None h = absurd (false≢true h)
row_some segments (Some d) h = refl

module _ (image : Image) (roots : List ℕ) (es : List (ℕ × CountedType)) (open_now : ℕ → Bool) (frames : List Frame) (pending : List ℕ) (r : Reading image roots (λ a. at_key a es) open_now frames pending)
    (none : pending ≡ []) (sorted : IsStrictlySortedBy nat_cmp (keys_of es)) where
  keys : Keyed es
  keys = keyed 0 es (rising_from_sorted es sorted) (λ a d h. (row_is image a (row_by image.segments d) (r.each a d h).row).0)

  rows : (a : ℕ) → row_of (rows_by image.segments es) a ≡ option_map (row_by image.segments) (at_key a es)
  rows = row_at image.segments es keys

  held : (a : ℕ) → IsSome (at_key a es) → IsSome (row_of (rows_by image.segments es) a)
  held a h = rw (rows a) (some_row image.segments (at_key a es) h)

  done : (a : ℕ) → IsSome (row_of (rows_by image.segments es) a) → IsSome (at_key a es)
  done a h = row_some image.segments (at_key a es) (rw (rows a) at h)

  row_done : (a : ℕ) (x : Row) → row_of (rows_by image.segments es) a ≡ Some x → (d : CountedType) × (at_key a es ≡ Some d) × (row_by image.segments d ≡ x)
  row_done a x e = row_by_of image.segments (at_key a es) x (sym (rows a) ∙ e)

  not_waiting : (a : ℕ) → IsSome (at_key a es) ⊎ Among pending a → IsSome (row_of (rows_by image.segments es) a)
  not_waiting a (inl h) = held a h
  not_waiting a (inr h) = absurd (rw none at h)

  leads : (a b : ℕ) (x : Row) → row_of (rows_by image.segments es) a ≡ Some x → Among (leads_to x) b → IsSome (row_of (rows_by image.segments es) b)
  leads a b x e among =
      let d = row_done a x e in
      let is = r.each a d.0 d.1 in
      elim (among_either (types_of x.bases) (pointees x.kind) b among) [
        | inl base ↦ held b (is.bases b (subst (λ (y : Row). Among (types_of y.bases) b) (sym d.2) base))
        | inr points ↦ not_waiting b (is.points b (subst (λ (y : Row). Among (pointees y.kind) b) (sym d.2) points))
      ]

  reads : (a : ℕ) (x : Row) → row_of (rows_by image.segments es) a ≡ Some x → type_at image a ≡ Ok x
  reads a x e = let d = row_done a x e in (r.each a d.0 d.1).row ∙ ap Ok d.2

  same_bases : (a : ℕ) → IsSome (row_of (rows_by image.segments es) a) → bases_of (rows_by image.segments es) a ≡ bases_by image a
  same_bases a h = let x = there_is (row_of (rows_by image.segments es) a) h in let read = reads a x.0 x.1 in rw (x.1, read) refl

  closed : (a b : ℕ) → IsSome (row_of (rows_by image.segments es) a) → Among (types_of (bases_of (rows_by image.segments es) a)) b → IsSome (row_of (rows_by image.segments es) b)
  closed a b h among =
      let x = there_is (row_of (rows_by image.segments es) a) h in
      let in_row : Among (types_of x.0.bases) b = rw x.1 at among in
      leads a b x.0 x.1 (among_left (types_of x.0.bases) (pointees x.0.kind) b in_row)

  few_held : (a : ℕ) → IsSome (row_of (rows_by image.segments es) a) → paths_within (bases_of (rows_by image.segments es)) 256 a ≤ 256
  few_held a h =
      let x = there_is (at_key a es) (done a h) in
      let is = r.each a x.0 x.1 in
      let same = paths_same (bases_of (rows_by image.segments es)) (bases_by image) (λ q. IsSome (row_of (rows_by image.segments es) q)) same_bases closed 256 a h in
      omega (arith, same, is.paths, is.few)

  few : (a : ℕ) (o : Option Row) → row_of (rows_by image.segments es) a ≡ o → paths_within (bases_of (rows_by image.segments es)) 256 a ≤ 256
  few a None e = let one : paths_within (bases_of (rows_by image.segments es)) 256 a ≡ 1 = paths_more (bases_of (rows_by image.segments es)) 255 a ∙ rw e refl in omega arith
  few a (Some x) e = few_held a (is_there (row_of (rows_by image.segments es) a) x e)

  pub meant : IsGraph image roots (rows_by image.segments es)
  meant = record {
    begins = λ a among. not_waiting a (r.begins a among);
    steps = leads;
    rows = reads;
    reached = λ a h. (let x = there_is (at_key a es) (done a h) in (r.each a x.0 x.1).reached);
    sound = record {
      rise = rows_rise image.segments 0 es (rising_from_sorted es sorted) keys;
      counted = counted (rows_by image.segments es) (λ a. few a (row_of (rows_by image.segments es) a) refl);
    };
  }

-- from the list that is collected
pub meant_by : (image : Image) (roots : List ℕ) (es : List (ℕ × CountedType)) (open_now : ℕ → Bool) (frames : List Frame) (pending : List ℕ) (kept : List Row)
    → Reading image roots (λ a. at_key a es) open_now frames pending → pending ≡ [] → IsStrictlySortedBy nat_cmp (keys_of es) → kept ≡ infos es → IsGraph image roots (rows_in image.segments kept)
meant_by image roots es open_now frames pending kept r none sorted is = rw is (meant image roots es open_now frames pending r none sorted)
