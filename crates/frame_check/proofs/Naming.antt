-- The roots are what descriptors name, and the type symbols.
use Rattle.std.proofs.Common.{◌≡◌, ◌≢◌, ℕ, zero, suc, ◌+◌, ◌==◌, ◌<◌, ◌≤◌, ◌⊎◌, inl, inr, Bool, true, false, if◌then◌else◌, nat_le, List, [], ◌∷◌, ◌++◌, length, get_or, drop, drop-cons, add-one, append_assoc, Option, Some, None, Ok, Err, refl, sym, ap, ◌∙◌, subst, arith}
use Rattle.std.specs.Prelude.{Contains}
use Rattle.std.specs.List.{flat_map, range_with_len}
use Rattle.std.proofs.lemmas.Bool.{and_parts, eqb-true, eqb-false, ne_eqb, leb-false}
use Rattle.std.proofs.lemmas.List.{append-nil, drop_all}
use Rattle.std.proofs.lemmas.List.FromFn.{get_or-range_with_len, length-range_with_len}
use Rattle.std.proofs.lemmas.List.Elements.{Contains-append_left, Contains-append_right, Contains-append_cases}
use Rattle.elf_image.specs.Segments.{Segment}
use Rattle.elf_image.specs.Functions.{Function}
use Rattle.elf_image.specs.Image.{Image, type_symbols_of}
use Rattle.eh_desc.specs.declared.descriptor.CatchType.{CatchType}
use Rattle.eh_desc.specs.declared.descriptor.CatchType.TheVariants.{All, AllFails, One}
use Rattle.eh_desc.specs.declared.descriptor.Desc.{Desc}
use Rattle.eh_desc.specs.declared.descriptor.DescKind.{DescKind}
use Rattle.eh_desc.specs.declared.descriptor.DescKind.TheVariants.{Cleanup, Catch, Spec}
use Rattle.eh_desc.specs.Grammar.{type_in}
use Rattle.eh_codes.specs.declared.row.Entry.{Entry}
use Rattle.eh_codes.specs.declared.row.EntryBody.{EntryBody}
use Rattle.eh_codes.specs.declared.row.EntryBody.TheVariants.{CantUnwind, Inline, Table}
use Rattle.frame_entries.specs.Scopes.{Item}
use Rattle.frame_graph.specs.Sites.{items_by, items_at}
use Rattle.frame_check.specs.Roots.{flow_graph_of, type_at, spec_root, catch_types, kind_types, item_types, entry_of, entry_types, same_body, same_entry, types_from, roots_of}
use Rattle.frame_check.specs.Laws.{Names, RootsAreNamed}

-- ---- joined lists

further : {X : Type 0} (x : X) (xs : List X) (y : X) → Contains xs y → Contains (x ∷ xs) y
further x xs y c = (suc c.0, omega (arith, c.1), c.2)

first : {X : Type 0} (x : X) (xs : List X) → Contains (x ∷ xs) x
first x xs = (0, omega arith, refl)

pub from_joined : {X Y : Type 0} (f : X → List Y) (xs : List X) (y : Y) → Contains (flat_map f xs) y → (x : X) × Contains xs x × Contains (f x) y
from_joined f [] y c = absurd (omega (arith, c.1))
from_joined {X} {Y} f (x ∷ xs) y c = go (Contains-append_cases (f x) (flat_map f xs) y c) (λ d. from_joined f xs y d)
  where
    go : Contains (f x) y ⊎ Contains (flat_map f xs) y → (Contains (flat_map f xs) y → (z : X) × Contains xs z × Contains (f z) y) → (z : X) × Contains (x ∷ xs) z × Contains (f z) y
    go (inl d) rec = (x, first x xs, d)
    go (inr d) rec = let r = rec d in (r.0, further x xs r.0 r.1, r.2)

pub to_joined : {X Y : Type 0} (f : X → List Y) (xs : List X) (x : X) (y : Y) → Contains xs x → Contains (f x) y → Contains (flat_map f xs) y
to_joined f [] x y c d = absurd (omega (arith, c.1))
to_joined f (z ∷ xs) x y (zero, l, e) d = Contains-append_left (f z) (flat_map f xs) y (subst (λ w. Contains (f w) y) (sym e) d)
to_joined f (z ∷ xs) x y (suc k, l, e) d = Contains-append_right (f z) (flat_map f xs) y (to_joined f xs x y (k, omega (arith, l), e) d)

-- ---- a type

at_type : (a t : ℕ) → Contains (type_at a) t → (a ≡ t) × (t ≢ 0)
at_type a t c = go (a == 0) refl c
  where
    one : a ≢ 0 → Contains (a ∷ []) t → (a ≡ t) × (t ≢ 0)
    one ne (zero, l, e) = (e, λ z. ne (e ∙ z))
    one ne (suc k, l, e) = absurd (omega (arith, l))

    go : (b : Bool) → (a == 0) ≡ b → Contains (if b then [] else a ∷ []) t → (a ≡ t) × (t ≢ 0)
    go true q c = absurd (omega (arith, c.1))
    go false q c = one (eqb-false a 0 q) c

is_type : (t : ℕ) → t ≢ 0 → Contains (type_at t) t
is_type t ne = rw (ne_eqb t 0 ne) (first t [])

catch_type : (ty : CatchType) (t : ℕ) → Contains (catch_types ty) t → (ty ≡ One t) × (t ≢ 0)
catch_type All t c = absurd (omega (arith, c.1))
catch_type AllFails t c = absurd (omega (arith, c.1))
catch_type (One a) t c = let r = at_type a t c in (ap One r.0, r.1)

listed_type : (o : Option ℕ) (t : ℕ) → Contains (spec_root o) t → (o ≡ Some t) × (t ≢ 0)
listed_type None t c = absurd (omega (arith, c.1))
listed_type (Some a) t c = let r = at_type a t c in (ap Some r.0, r.1)

named : (segments : List Segment) (kind : DescKind) (t : ℕ) → Contains (kind_types segments kind) t
    → (((pad : ℕ) × (reference : Bool) × (kind ≡ Catch pad reference (One t))) ⊎ ((i : ℕ) × (type_in segments kind i ≡ Some t))) × (t ≢ 0)
named segments (Cleanup pad) t c = absurd (omega (arith, c.1))
named segments (Catch pad reference ty) t c = let r = catch_type ty t c in (inl (pad, reference, ap (Catch pad reference) r.0), r.1)
named segments (Spec types count pad) t c =
    let r = from_joined (λ i. spec_root (type_in segments (Spec types count pad) i)) (range_with_len 0 count) t c in
    let s = listed_type (type_in segments (Spec types count pad) r.0) t r.2 in
    (inr (r.0, s.0), s.1)

in_range : (i count : ℕ) → i < count → Contains (range_with_len 0 count) i
in_range i count l = (i, rw length-range_with_len l, get_or-range_with_len 0 count i i l ∙ omega arith)

naming : (segments : List Segment) (kind : DescKind) (t : ℕ) → t ≢ 0
    → (((pad : ℕ) × (reference : Bool) × (kind ≡ Catch pad reference (One t))) ⊎ ((i : ℕ) × (type_in segments kind i ≡ Some t))) → Contains (kind_types segments kind) t
naming segments kind t ne (inl (pad, reference, e)) = subst (λ k. Contains (kind_types segments k) t) (sym e) (is_type t ne)
naming segments (Cleanup pad) t ne (inr (i, e)) = absurd (cc)
naming segments (Catch pad reference ty) t ne (inr (i, e)) = absurd (cc)
naming segments (Spec types count pad) t ne (inr (i, e)) =
    to_joined (λ k. spec_root (type_in segments (Spec types count pad) k)) (range_with_len 0 count) i t (in_range i count (below (nat_le count i) refl e))
    (subst (λ o. Contains (spec_root o) t) (sym e) (is_type t ne))
  where
    below : (b : Bool) → nat_le count i ≡ b → type_in segments (Spec types count pad) i ≡ Some t → i < count
    below true q f = absurd (let g : type_in segments (Spec types count pad) i ≡ None = rw q refl in cc)
    below false q f = leb-false count i q

-- ---- entries

same_bodies : (a b : EntryBody) → same_body a b ≡ true → a ≡ b
same_bodies CantUnwind CantUnwind e = refl
same_bodies (Inline a) (Inline b) e = ap Inline (eqb-true a b e)
same_bodies (Table a) (Table b) e = ap Table (eqb-true a b e)
same_bodies CantUnwind (Inline b) e = absurd (cc)
same_bodies CantUnwind (Table b) e = absurd (cc)
same_bodies (Inline a) CantUnwind e = absurd (cc)
same_bodies (Inline a) (Table b) e = absurd (cc)
same_bodies (Table a) CantUnwind e = absurd (cc)
same_bodies (Table a) (Inline b) e = absurd (cc)

same_entries : (a b : Option Entry) → same_entry a b ≡ true → a ≡ b
same_entries None None e = refl
same_entries None (Some b) e = absurd (cc)
same_entries (Some a) None e = absurd (cc)
same_entries (Some a) (Some b) e =
    let two = and_parts (a.start == b.start) (same_body a.body b.body) e in
    ap Some
    (ap (λ (n : ℕ). let x : Entry = record { start = n; body = a.body } in x) (eqb-true a.start b.start two.0)
    ∙ ap (λ (y : EntryBody). let x : Entry = record { start = b.start; body = y } in x) (same_bodies a.body b.body two.1))

-- what is told of functions is told of their entries
from_types : (image : Image) (before : Option Entry) (fs : List Function) (t : ℕ) → Contains (types_from image before fs) t
    → (f : Function) × Contains fs f × Contains (entry_types image (entry_of image f)) t
unfolding types_from
from_types image before [] t c = absurd (omega (arith, c.1))
from_types image before (f ∷ more) t c =
    go (Contains-append_cases (if same_entry before (entry_of image f) then [] else entry_types image (entry_of image f)) (types_from image (entry_of image f) more) t c)
    (λ d. from_types image (entry_of image f) more t d)
  where
    here : (b : Bool) → Contains (if b then [] else entry_types image (entry_of image f)) t → Contains (entry_types image (entry_of image f)) t
    here true d = absurd (omega (arith, d.1))
    here false d = d

    go : Contains (if same_entry before (entry_of image f) then [] else entry_types image (entry_of image f)) t ⊎ Contains (types_from image (entry_of image f) more) t
        → (Contains (types_from image (entry_of image f) more) t → (g : Function) × Contains more g × Contains (entry_types image (entry_of image g)) t)
        → (g : Function) × Contains (f ∷ more) g × Contains (entry_types image (entry_of image g)) t
    go (inl d) rec = (f, first f more, here (same_entry before (entry_of image f)) d)
    go (inr d) rec = let r = rec d in (r.0, further f more r.0 r.1, r.2)

to_types : (image : Image) (before : Option Entry) (fs : List Function) (f : Function) (t : ℕ) → Contains fs f → Contains (entry_types image (entry_of image f)) t
    → Contains (types_from image before fs) t ⊎ Contains (entry_types image before) t
unfolding types_from
to_types image before [] f t c d = absurd (omega (arith, c.1))
to_types image before (g ∷ more) f t c d = by c (λ k. to_types image (entry_of image g) more f t k d)
  where
    head : Contains (entry_types image (entry_of image g)) t → (b : Bool) → same_entry before (entry_of image g) ≡ b
        → Contains ((if b then [] else entry_types image (entry_of image g)) ++ types_from image (entry_of image g) more) t ⊎ Contains (entry_types image before) t
    head h true q = inr (subst (λ o. Contains (entry_types image o) t) (sym (same_entries before (entry_of image g) q)) h)
    head h false q = inl (Contains-append_left (entry_types image (entry_of image g)) (types_from image (entry_of image g) more) t h)

    later : Contains (types_from image (entry_of image g) more) t ⊎ Contains (entry_types image (entry_of image g)) t
        → Contains (types_from image before (g ∷ more)) t ⊎ Contains (entry_types image before) t
    later (inl h) = inl (Contains-append_right (if same_entry before (entry_of image g) then [] else entry_types image (entry_of image g)) (types_from image (entry_of image g) more) t h)
    later (inr h) = head h (same_entry before (entry_of image g)) refl

    by : Contains (g ∷ more) f → (Contains more f → Contains (types_from image (entry_of image g) more) t ⊎ Contains (entry_types image (entry_of image g)) t)
        → Contains (types_from image before (g ∷ more)) t ⊎ Contains (entry_types image before) t
    by (zero, l, e) rec = head (subst (λ x. Contains (entry_types image (entry_of image x)) t) (sym e) d) (same_entry before (entry_of image g)) refl
    by (suc k, l, e) rec = later (rec (k, omega (arith, l), e))

entry_items : (image : Image) (f : Function) → entry_types image (entry_of image f) ≡ flat_map (item_types image.segments) (items_at (flow_graph_of image f) f.start)
unfolding items_at
entry_items image f = go (entry_of image f)
  where
    go : (o : Option Entry) → entry_types image o ≡ flat_map (item_types image.segments) (items_by (flow_graph_of image f) o)
    go None = refl
    go (Some e) = refl

-- ---- a walk over functions, one more

pub types_next : (image : Image) (before e : Option Entry) (fs : List Function) (i : ℕ) (f : Function) (ys new all : List ℕ) → i < length fs → f ≡ get_or fs i f → e ≡ entry_of image f
    → new ≡ ys ++ (if same_entry before e then [] else entry_types image e) → ys ++ types_from image before (drop i fs) ≡ all → new ++ types_from image e (drop (i + 1) fs) ≡ all
unfolding types_from
types_next image before e fs i f ys new all l is at n w =
    let cut : drop i fs ≡ f ∷ drop (i + 1) fs = (rw add-one (drop-cons fs i f l)) ∙ ap (λ (g : Function). g ∷ drop (i + 1) fs) (sym is) in
    let step : types_from image before (drop i fs) ≡ (if same_entry before e then [] else entry_types image e) ++ types_from image e (drop (i + 1) fs) =
    ap (types_from image before) cut
    ∙ ap (λ (o : Option Entry). (if same_entry before o then [] else entry_types image o) ++ types_from image o (drop (i + 1) fs)) (sym at) in
    ap (λ l. l ++ types_from image e (drop (i + 1) fs)) n ∙ assoc ys (if same_entry before e then [] else entry_types image e) (types_from image e (drop (i + 1) fs))
    ∙ ap (λ l. ys ++ l) (sym step) ∙ w
  where
    assoc : (xs zs ws : List ℕ) → (xs ++ zs) ++ ws ≡ xs ++ (zs ++ ws)
    assoc xs zs ws = rw append_assoc refl

pub types_end : (image : Image) (before : Option Entry) (fs : List Function) (i : ℕ) (ys all : List ℕ) → length fs ≤ i → ys ++ types_from image before (drop i fs) ≡ all → ys ≡ all
unfolding types_from
types_end image before fs i ys all l w = sym (append-nil ys) ∙ ap (λ gs. ys ++ types_from image before gs) (sym (drop_all i fs l)) ∙ w

-- ---- descriptors, functions, the image

pub roots_named : RootsAreNamed
unfolding roots_of
roots_named image t = (there, back)
  where
    item : (f : Function) → Contains image.functions f → (x : Item) → Contains (items_at (flow_graph_of image f) f.start) x → Contains (item_types image.segments x) t
        → (g : Function) × (d : Desc) × Contains image.functions g × Contains (items_at (flow_graph_of image g) g.start) (Ok d) × Names image d t × (t ≢ 0)
    item f c (Ok d) i k = let r = named image.segments d.kind t k in (f, d, c, i, r.0, r.1)
    item f c (Err fault) i k = absurd (omega (arith, k.1))

    there : Contains (types_from image None image.functions ++ type_symbols_of image.symbols) t
        → ((f : Function) × (d : Desc) × Contains image.functions f × Contains (items_at (flow_graph_of image f) f.start) (Ok d) × Names image d t × (t ≢ 0)) ⊎ Contains (type_symbols_of image.symbols) t
    there c = go (Contains-append_cases (types_from image None image.functions) (type_symbols_of image.symbols) t c)
      where
        go : Contains (types_from image None image.functions) t ⊎ Contains (type_symbols_of image.symbols) t
            → ((f : Function) × (d : Desc) × Contains image.functions f × Contains (items_at (flow_graph_of image f) f.start) (Ok d) × Names image d t × (t ≢ 0)) ⊎ Contains (type_symbols_of image.symbols) t
        go (inl k) =
            let r = from_types image None image.functions t k in
            let q = from_joined (item_types image.segments) (items_at (flow_graph_of image r.0) (r.0).start) t (subst (λ l. Contains l t) (entry_items image r.0) r.2) in
            inl (item r.0 r.1 q.0 q.1 q.2)
        go (inr k) = inr k

    back : (((f : Function) × (d : Desc) × Contains image.functions f × Contains (items_at (flow_graph_of image f) f.start) (Ok d) × Names image d t × (t ≢ 0)) ⊎ Contains (type_symbols_of image.symbols) t)
        → Contains (types_from image None image.functions ++ type_symbols_of image.symbols) t
    back (inl (f, d, c, i, n, ne)) =
        told (to_types image None image.functions f t c
        (subst (λ l. Contains l t) (sym (entry_items image f)) (to_joined (item_types image.segments) (items_at (flow_graph_of image f) f.start) (Ok d) t i (naming image.segments d.kind t ne n))))
      where
        told : Contains (types_from image None image.functions) t ⊎ Contains (entry_types image None) t → Contains (types_from image None image.functions ++ type_symbols_of image.symbols) t
        told (inl h) = Contains-append_left (types_from image None image.functions) (type_symbols_of image.symbols) t h
        told (inr h) = absurd (omega (arith, h.1))
    back (inr k) = Contains-append_right (types_from image None image.functions) (type_symbols_of image.symbols) t k
