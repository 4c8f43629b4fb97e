-- Headers put in order of their addresses: which of them overlap.
use Rattle.std.proofs.Common.{◌≡◌, ℕ, ◌+◌, ◌<◌, ◌≤◌, Bool, true, false, ◌&&◌, ◌||◌, cond, nat_lt, List, [], ◌∷◌, ◌++◌, length, take, drop, get_or, Option, Some, None, is_some, refl, sym, ◌∙◌, ap, inl, inr, arith}
use Rattle.std.proofs.lemmas.Bool.Decides.{nat_tests}
use Rattle.std.specs.List.{list_any, All}
use Rattle.std.proofs.lemmas.List.Sums.{fold_more}
use Rattle.std.specs.Map.{values_of, keys_of, lookup}
use Rattle.std.specs.Ordering.{nat_cmp, is_eq, match_ordering}
use Rattle.std.specs.declared.cmp.Ordering.{Ordering}
use Rattle.std.specs.declared.cmp.Ordering.TheVariants.{Less, Equal, Greater}
use Rattle.std.specs.BTreeMap.{insert_entry, is_at}
use Rattle.std.proofs.Math.Bool.{or-true}
use Rattle.std.specs.List.{AllByRecursion}
use Rattle.std.specs.List.Sorted.{IsStrictlySortedBy}
use Rattle.std.proofs.lemmas.Map.Keys.{sorted_head, sorted_tail}
use Rattle.std.proofs.lemmas.List.{take_more, take-append-drop}
use Rattle.std.proofs.lemmas.List.Folds.{list_any-append}
use Rattle.std.proofs.lemmas.Bool.{cases_lt}
use Rattle.elf_image.specs.Segments.{memory_end, overlap, some_overlap, by_address}
use Rattle.elf_image.specs.Sorted.{overlap_from, AreKeyed, Hold}
use Rattle.elf_image.specs.declared.format.ProgramHeader.{ProgramHeader}

-- laws of `or`
or_swap : (a b c : Bool) → (a || (b || c)) ≡ (b || (a || c))
or_swap true true c = refl
or_swap true false c = refl
or_swap false true c = refl
or_swap false false c = refl

or_four : (a b c d : Bool) → ((a || b) || (c || d)) ≡ ((a || c) || (b || d))
or_four true b true d = refl
or_four true b false d = refl
or_four false true true d = refl
or_four false true false d = refl
or_four false false c d = refl

and_comm : (a b : Bool) → (a && b) ≡ (b && a)
and_comm true true = refl
and_comm true false = refl
and_comm false true = refl
and_comm false false = refl

overlap_sym : (g h : ProgramHeader) → overlap g h ≡ overlap h g
overlap_sym g h = and_comm (nat_lt g.address (memory_end h)) (nat_lt h.address (memory_end g))

-- ---- one more entry, at an address where there is none

-- no entry at the key: the first is at another one, and none of the others is at it
absent_at : {X : Type 0} (o : Ordering) (x : X) (rest : Option X) → cond (is_eq o) (Some x) rest ≡ None → (o ≡ Equal → ⊥) × (rest ≡ None)
absent_at Less x rest h = (λ e. cc, h)
absent_at Equal x rest h = absurd cc
absent_at Greater x rest h = (λ e. cc, h)

-- every test finds it and what was there
any_step : (o : Ordering) (p : ProgramHeader → Bool) (k : ℕ) (v : ProgramHeader) (e : ℕ × ProgramHeader) (es rest : List (ℕ × ProgramHeader)) → (o ≡ Equal → ⊥)
    → list_any p (values_of rest) ≡ (p v || list_any p (values_of es))
    → list_any p (values_of (match_ordering o ((k, v) ∷ e ∷ es) ((e.0, v) ∷ es) (e ∷ rest))) ≡ (p v || (p e.1 || list_any p (values_of es)))
any_step Less p k v e es rest apart h = refl
any_step Equal p k v e es rest apart h = absurd (apart refl)
any_step Greater p k v e es rest apart h = rw h (or_swap (p e.1) (p v) (list_any p (values_of es)))

any_insert : (p : ProgramHeader → Bool) (es : List (ℕ × ProgramHeader)) (k : ℕ) (v : ProgramHeader) → lookup (is_at (nat_cmp k)) es ≡ None
    → list_any p (values_of (insert_entry nat_cmp es k v)) ≡ (p v || list_any p (values_of es))
any_insert p [] k v absent = refl
any_insert p (e ∷ es) k v absent =
    let apart = absent_at (nat_cmp k e.0) e.1 (lookup (is_at (nat_cmp k)) es) absent in
    any_step (nat_cmp k e.0) p k v e es (insert_entry nat_cmp es k v) apart.0 (any_insert p es k v apart.1)

overlap_step : (o : Ordering) (k : ℕ) (v : ProgramHeader) (e : ℕ × ProgramHeader) (es rest : List (ℕ × ProgramHeader)) → (o ≡ Equal → ⊥)
    → list_any (overlap e.1) (values_of rest) ≡ (overlap e.1 v || list_any (overlap e.1) (values_of es))
    → some_overlap (values_of rest) ≡ (list_any (overlap v) (values_of es) || some_overlap (values_of es))
    → some_overlap (values_of (match_ordering o ((k, v) ∷ e ∷ es) ((e.0, v) ∷ es) (e ∷ rest)))
    ≡ ((overlap v e.1 || list_any (overlap v) (values_of es)) || (list_any (overlap e.1) (values_of es) || some_overlap (values_of es)))
overlap_step Less k v e es rest apart h i = refl
overlap_step Equal k v e es rest apart h i = absurd (apart refl)
overlap_step Greater k v e es rest apart h i =
    rw (h, i, overlap_sym e.1 v) (or_four (overlap v e.1) (list_any (overlap e.1) (values_of es)) (list_any (overlap v) (values_of es)) (some_overlap (values_of es)))

overlap_insert : (es : List (ℕ × ProgramHeader)) (k : ℕ) (v : ProgramHeader) → lookup (is_at (nat_cmp k)) es ≡ None
    → some_overlap (values_of (insert_entry nat_cmp es k v)) ≡ (list_any (overlap v) (values_of es) || some_overlap (values_of es))
overlap_insert [] k v absent = refl
overlap_insert (e ∷ es) k v absent =
    let apart = absent_at (nat_cmp k e.0) e.1 (lookup (is_at (nat_cmp k)) es) absent in
    overlap_step (nat_cmp k e.0) k v e es (insert_entry nat_cmp es k v) apart.0 (any_insert (overlap e.1) es k v apart.1) (overlap_insert es k v apart.1)

any_push : (p : ProgramHeader → Bool) (xs : List ProgramHeader) (h : ProgramHeader) → list_any p (xs ++ h ∷ []) ≡ (p h || list_any p xs)
any_push p [] h = refl
any_push p (x ∷ xs) h = rw (any_push p xs h) (or_swap (p x) (p h) (list_any p xs))

pub overlap_push : (xs : List ProgramHeader) (h : ProgramHeader) → some_overlap (xs ++ h ∷ []) ≡ (list_any (overlap h) xs || some_overlap xs)
overlap_push [] h = refl
overlap_push (x ∷ xs) h =
    rw (any_push (overlap x) xs h, overlap_push xs h, overlap_sym x h) (or_four (overlap h x) (list_any (overlap x) xs) (list_any (overlap h) xs) (some_overlap xs))

keyed_step : (o : Ordering) (v : ProgramHeader) (e : ℕ × ProgramHeader) (es rest : List (ℕ × ProgramHeader)) → (o ≡ Equal → ⊥) → 0 < v.memory_size
    → AreKeyed (e ∷ es) → AreKeyed rest → AreKeyed (match_ordering o ((v.address, v) ∷ e ∷ es) ((e.0, v) ∷ es) (e ∷ rest))
keyed_step Less v e es rest apart some h i = (refl, some, h)
keyed_step Equal v e es rest apart some h i = absurd (apart refl)
keyed_step Greater v e es rest apart some h i = (h.0, h.1, i)

keyed_insert : (es : List (ℕ × ProgramHeader)) (v : ProgramHeader) → lookup (is_at (nat_cmp v.address)) es ≡ None → 0 < v.memory_size → AreKeyed es
    → AreKeyed (insert_entry nat_cmp es v.address v)
keyed_insert [] v absent some h = (refl, some, tt)
keyed_insert (e ∷ es) v absent some h =
    let apart = absent_at (nat_cmp v.address e.0) e.1 (lookup (is_at (nat_cmp v.address)) es) absent in
    keyed_step (nat_cmp v.address e.0) v e es (insert_entry nat_cmp es v.address v) apart.0 some h (keyed_insert es v apart.1 some h.2)

pub hold_none : Hold [] []
hold_none = record { same = λ p. refl; overlaps = refl; keyed = tt }

pub hold_more : (es : List (ℕ × ProgramHeader)) (xs : List ProgramHeader) (v : ProgramHeader) → Hold es xs → 0 < v.memory_size → lookup (is_at (nat_cmp v.address)) es ≡ None
    → Hold (insert_entry nat_cmp es v.address v) (xs ++ v ∷ [])
hold_more es xs v h some absent = record {
  same = λ p. any_insert p es v.address v absent ∙ rw (h.same p) (sym (any_push p xs v));
  overlaps = overlap_insert es v.address v absent ∙ rw (h.same (overlap v), h.overlaps) (sym (overlap_push xs v));
  keyed = keyed_insert es v absent some h.keyed;
}

-- ---- an entry at an address where there is one: the two overlap

nat_cmp_equal : (x y : ℕ) → nat_cmp x y ≡ Equal → x ≡ y
nat_cmp_equal x y h = grind (arith, nat_tests)

twice_step : (o : Ordering) (v x : ProgramHeader) (rest : Option ProgramHeader) (more : Bool) → (o ≡ Equal → overlap v x ≡ true) → (is_some rest ≡ true → more ≡ true)
    → is_some (cond (is_eq o) (Some x) rest) ≡ true → (overlap v x || more) ≡ true
twice_step Less v x rest more h i found = rw (i found) (or-true (overlap v x))
twice_step Equal v x rest more h i found = rw (h refl) refl
twice_step Greater v x rest more h i found = rw (i found) (or-true (overlap v x))

overlap_same : (v x : ProgramHeader) → v.address ≡ x.address → 0 < v.memory_size → 0 < x.memory_size → overlap v x ≡ true
overlap_same v x e some other = grind (arith, nat_tests)

pub twice_any : (es : List (ℕ × ProgramHeader)) (v : ProgramHeader) → AreKeyed es → 0 < v.memory_size → is_some (lookup (is_at (nat_cmp v.address)) es) ≡ true
    → list_any (overlap v) (values_of es) ≡ true
twice_any [] v h some found = absurd cc
twice_any (e ∷ es) v h some found =
    twice_step (nat_cmp v.address e.0) v e.1 (lookup (is_at (nat_cmp v.address)) es) (list_any (overlap v) (values_of es))
    (λ same. overlap_same v e.1 (nat_cmp_equal v.address e.0 same ∙ h.0) some h.1) (twice_any es v h.2 some) found

or_kept : (a b c d : Bool) → (b ≡ true → d ≡ true) → (a || b) ≡ true → ((a || c) || d) ≡ true
or_kept true b c d h e = refl
or_kept false b c d h e = rw (h e) (or-true c)

-- two overlap as soon as some of the first do
pub overlap_kept : (xs ys : List ProgramHeader) → some_overlap xs ≡ true → some_overlap (xs ++ ys) ≡ true
overlap_kept [] ys h = absurd cc
overlap_kept (x ∷ xs) ys h =
    rw (list_any-append (overlap x) xs ys) (or_kept (list_any (overlap x) xs) (some_overlap xs) (list_any (overlap x) ys) (some_overlap (xs ++ ys)) (overlap_kept xs ys) h)

pub overlap_twice : (es : List (ℕ × ProgramHeader)) (xs : List ProgramHeader) (i : ℕ) (d : ProgramHeader) → Hold es (take i xs) → i < length xs → All (λ h. 0 < h.memory_size) xs
    → is_some (lookup (is_at (nat_cmp (get_or xs i d).address)) es) ≡ true → some_overlap xs ≡ true
overlap_twice es xs i d h inside all found =
    let v = get_or xs i d in
    let some : 0 < v.memory_size = all i d inside in
    let before : list_any (overlap v) (take i xs) ≡ true = sym (h.same (overlap v)) ∙ twice_any es v h.keyed some found in
    let now : some_overlap (take i xs ++ v ∷ []) ≡ true = overlap_push (take i xs) v ∙ rw before refl in
    ap some_overlap (sym (take-append-drop (i + 1) xs)) ∙ overlap_kept (take (i + 1) xs) (drop (i + 1) xs) (ap some_overlap (take_more xs i d inside) ∙ now)

none_there : {X : Type 0} (o : Option X) → is_some o ≡ false → o ≡ None
none_there None h = refl
none_there (Some x) h = absurd cc

-- a loop's step
pub placed_more : (es new : List (ℕ × ProgramHeader)) (xs : List ProgramHeader) (i : ℕ) (d : ProgramHeader) → i < length xs → All (λ h. 0 < h.memory_size) xs
    → (es ≡ by_address (take i xs)) × Hold es (take i xs) → is_some (lookup (is_at (nat_cmp (get_or xs i d).address)) es) ≡ false
    → new ≡ insert_entry nat_cmp es (get_or xs i d).address (get_or xs i d)
    → (new ≡ by_address (take (i + 1) xs)) × Hold new (take (i + 1) xs)
placed_more es new xs i d inside all h absent is =
    let v = get_or xs i d in
    let step : by_address (take (i + 1) xs) ≡ insert_entry nat_cmp (by_address (take i xs)) v.address v =
    fold_more (λ (entries : List (ℕ × ProgramHeader)) (x : ProgramHeader). insert_entry nat_cmp entries x.address x) [] xs i d inside in
    (is ∙ rw h.0 (sym step), rw (is, take_more xs i d inside) (hold_more es (take i xs) v h.1 (all i d inside) (none_there _ absent)))

-- ---- in rising order a look at neighbours is enough

apart_overlap : (h x : ProgramHeader) → memory_end h ≤ x.address → overlap h x ≡ false
apart_overlap h x e = grind (arith, nat_tests)

next_overlap : (h x : ProgramHeader) → h.address < x.address → x.address < memory_end h → 0 < x.memory_size → overlap h x ≡ true
next_overlap h x below e some = grind (arith, nat_tests)

nat_cmp_less : (x y : ℕ) → nat_cmp x y ≡ Less → x < y
nat_cmp_less x y h = grind (arith, nat_tests)

test_lt : (x y : ℕ) → x < y → nat_lt x y ≡ true
test_lt x y h = grind (arith, nat_tests)

test_ge : (x y : ℕ) → y ≤ x → nat_lt x y ≡ false
test_ge x y h = grind (arith, nat_tests)

above_keys : (low k : ℕ) (es : List (ℕ × ProgramHeader)) → low ≤ k → AllByRecursion (λ y. nat_cmp k y ≡ Less) (keys_of es) → AllByRecursion (λ (e : ℕ × ProgramHeader). low ≤ e.0) es
above_keys low k [] h a = tt
above_keys low k (e ∷ es) h a = let above = nat_cmp_less k e.0 a.0 in (omega arith, above_keys low k es h a.1)

above_any : (h : ProgramHeader) (es : List (ℕ × ProgramHeader)) → AreKeyed es → AllByRecursion (λ (e : ℕ × ProgramHeader). memory_end h ≤ e.0) es → list_any (overlap h) (values_of es) ≡ false
above_any h [] k a = refl
above_any h (e ∷ es) k a =
    let apart : overlap h e.1 ≡ false = apart_overlap h e.1 (omega (arith, k.0, a.0)) in
    rw apart (above_any h es k.2 a.1)

neighbours_from : (e : ℕ × ProgramHeader) (es : List (ℕ × ProgramHeader)) → AreKeyed (e ∷ es) → IsStrictlySortedBy nat_cmp (keys_of (e ∷ es))
    → some_overlap (values_of (e ∷ es)) ≡ overlap_from (memory_end e.1) (values_of es)
neighbours_from e [] k s = refl
neighbours_from e (f ∷ es) k s =
    let rest = sorted_tail nat_cmp e.0 (keys_of (f ∷ es)) s in
    let rising = nat_cmp_less e.0 f.0 (sorted_head nat_cmp e.0 (keys_of (f ∷ es)) s).0 in
    elim (cases_lt f.1.address (memory_end e.1)) [
      | inl near ↦
          let both : overlap e.1 f.1 ≡ true = next_overlap e.1 f.1 (omega (arith, k.0, k.2.0)) near k.2.1 in
          rw (both, test_lt f.1.address (memory_end e.1) near) refl
      | inr apart ↦
          let both : overlap e.1 f.1 ≡ false = apart_overlap e.1 f.1 apart in
          let above = above_keys (memory_end e.1) f.0 es (omega (arith, k.2.0)) (sorted_head nat_cmp f.0 (keys_of es) rest) in
          rw (both, above_any e.1 es k.2.2 above, test_ge f.1.address (memory_end e.1) apart) (neighbours_from f es k.2 rest)
    ]

pub neighbours : (es : List (ℕ × ProgramHeader)) → AreKeyed es → IsStrictlySortedBy nat_cmp (keys_of es) → some_overlap (values_of es) ≡ overlap_from 0 (values_of es)
neighbours [] k s = refl
neighbours (e ∷ es) k s = neighbours_from e es k s ∙ rw (test_ge e.1.address 0 (omega arith)) refl

-- the same for all that was put in
pub sorted_overlap : (es : List (ℕ × ProgramHeader)) (xs : List ProgramHeader) → Hold es xs → IsStrictlySortedBy nat_cmp (keys_of es) → some_overlap xs ≡ overlap_from 0 (values_of es)
sorted_overlap es xs h s = sym h.overlaps ∙ neighbours es h.keyed s
