-- Mapping symbols: the one of the greatest address at or below an address decides, there the last.
use Rattle.elf_image.proofs.Lookups.{both_true}
use Rattle.std.proofs.Common.{suc, get_or, codes, nat_eq, length, ◌≡◌, ◌⊎◌, ℕ, ◌+◌, ◌/◌, ◌%◌, ◌<◌, ◌≤◌, ◌&&◌, ◌||◌, Bool, true, false, cond, nat_le, nat_lt, List, [], ◌∷◌, ◌++◌, fold, Option, Some, None, refl, sym, ◌∙◌, ap, subst, inl, inr, append_assoc, append-nil, arith}
use Rattle.std.proofs.lemmas.Bool.Decides.{nat_tests}
use Rattle.std.proofs.lemmas.Bool.{cases_lt, cases_eq, false≢true}
use Rattle.std.proofs.lemmas.List.Elements.{All-cons, All-nil, All-append, All-push}
use Rattle.std.specs.List.{starts_with, All}
use Rattle.std.specs.Option.{IfSome, option_or}
use Rattle.std.specs.Ordering.{nat_cmp}
use Rattle.std.specs.BTreeMap.{insert_entry}
use Rattle.elf_image.specs.Symbols.{Symbol}
use Rattle.elf_image.specs.Marks.{is_mark_name, is_mark, begins_code, with_mark, marks_of, is_code_by_marks}
use Rattle.elf_image.specs.Laws.{is_mapping_name, is_mapping, says_code, Decides, IsMarkedBy}
use Rattle.elf_image.proofs.Entries.{cmp_less, cmp_equal, cmp_greater, Rising, rising_insert}

le_true : (x y : ℕ) → x ≤ y → nat_le x y ≡ true
le_true x y h = grind (arith, nat_tests)

le_false : (x y : ℕ) → y < x → nat_le x y ≡ false
le_false x y h = grind (arith, nat_tests)

abbrev Entry : Type 0
Entry = ℕ × Bool

-- the last entry at or below an address
abbrev pub last_at : ℕ → List Entry → Option Entry
last_at a [] = None
last_at a (e ∷ es) = cond (nat_le e.0 a) (option_or (last_at a es) (Some e)) (last_at a es)

abbrev pub says : Bool → Option Entry → Bool
says code None = code
says code (Some e) = e.1

says_or : (o : Option Entry) (e : Entry) (code : Bool) → says e.1 o ≡ says code (option_or o (Some e))
says_or None e code = refl
says_or (Some x) e code = refl

marked_from : (a : ℕ) (code : Bool) (es : List Entry) → fold (λ b (m : Entry). cond (nat_le m.0 a) m.1 b) code es ≡ says code (last_at a es)
marked_from a code [] = refl
marked_from a code (e ∷ es) = by_test (nat_le e.0 a) (marked_from a e.1 es) (marked_from a code es)
  where
    by_test : (b : Bool) → fold (λ b (m : Entry). cond (nat_le m.0 a) m.1 b) e.1 es ≡ says e.1 (last_at a es) → fold (λ b (m : Entry). cond (nat_le m.0 a) m.1 b) code es ≡ says code (last_at a es)
        → fold (λ b (m : Entry). cond (nat_le m.0 a) m.1 b) (cond b e.1 code) es ≡ says code (cond b (option_or (last_at a es) (Some e)) (last_at a es))
    by_test true h i = h ∙ says_or (last_at a es) e code
    by_test false h i = i

-- ---- where the last one stands

abbrev pub Within : ℕ → ℕ → Entry → Type 0
Within low a e = (low ≤ e.0) × (e.0 ≤ a)

last_within : (a low : ℕ) (es : List Entry) → Rising low es → IfSome (last_at a es) (Within low a)
last_within a low [] r = tt
last_within a low (x ∷ es) r =
    elim (cases_lt a x.0) [
      | inl above ↦ rw (le_false x.0 a above) (wider (last_at a es) (last_within a (x.0 + 1) es r.1))
      | inr at ↦ rw (le_true x.0 a at) (either (last_at a es) at (last_within a (x.0 + 1) es r.1))
    ]
  where
    wider : (o : Option Entry) → IfSome o (Within (x.0 + 1) a) → IfSome o (Within low a)
    wider None h = tt
    wider (Some e) h = (omega (arith, h.0, r.0), h.1)

    either : (o : Option Entry) → x.0 ≤ a → IfSome o (Within (x.0 + 1) a) → IfSome (option_or o (Some x)) (Within low a)
    either None at h = (r.0, at)
    either (Some e) at h = (omega (arith, h.0, r.0), h.1)

-- ---- one more

-- what becomes the last one where (k, v) is put in at or below the address
abbrev pub newer : ℕ → Bool → Option Entry → Option Entry
newer k v None = Some (k, v)
newer k v (Some e) = cond (nat_lt k e.0) (Some e) (Some (k, v))

lt_true : (x y : ℕ) → x < y → nat_lt x y ≡ true
lt_true x y h = grind (arith, nat_tests)

lt_false : (x y : ℕ) → y ≤ x → nat_lt x y ≡ false
lt_false x y h = grind (arith, nat_tests)

-- all are above k: the last one stays the last
newer_below : (k a low : ℕ) (v : Bool) (o : Option Entry) → k < low → IfSome o (Within low a) → option_or o (Some (k, v)) ≡ newer k v o
newer_below k a low v None e h = refl
newer_below k a low v (Some x) e h = rw (lt_true k x.0 (omega (arith, h.0))) refl

newer_same : (k a low : ℕ) (v : Bool) (x : Entry) (o : Option Entry) → k ≡ x.0 → x.0 < low → IfSome o (Within low a) → option_or o (Some (x.0, v)) ≡ newer k v (option_or o (Some x))
newer_same k a low v x None e f h = rw (lt_false k x.0 (omega arith), e) refl
newer_same k a low v x (Some y) e f h = rw (lt_true k y.0 (omega (arith, h.0))) refl

newer_later : (k : ℕ) (v : Bool) (x : Entry) (o : Option Entry) → x.0 < k → option_or (newer k v o) (Some x) ≡ newer k v (option_or o (Some x))
newer_later k v x None e = rw (lt_false k x.0 (omega arith)) refl
newer_later k v x (Some y) e = by_test (nat_lt k y.0)
  where
    by_test : (b : Bool) → option_or (cond b (Some y) (Some (k, v))) (Some x) ≡ cond b (Some y) (Some (k, v))
    by_test true = refl
    by_test false = refl

abbrev pub last_with : ℕ → ℕ → Bool → Option Entry → Option Entry
last_with a k v o = cond (nat_le k a) (newer k v o) o

last_insert : (a low : ℕ) (es : List Entry) (k : ℕ) (v : Bool) → Rising low es → last_at a (insert_entry nat_cmp es k v) ≡ last_with a k v (last_at a es)
last_insert a low [] k v r = refl
last_insert a low (x ∷ es) k v r =
    elim (cases_lt k x.0) [
      | inl below ↦
          rw (cmp_less k x.0 below)
          (ap (λ (o : Option Entry). cond (nat_le k a) o (last_at a (x ∷ es))) (newer_below k a x.0 v (last_at a (x ∷ es)) below (last_within a x.0 (x ∷ es) (omega arith, r.1))))
      | inr at ↦ elim (cases_eq k x.0) [
        | inl same ↦
            rw (cmp_equal k x.0 same) (elim (cases_lt a x.0) [
              | inl above ↦ rw (le_false x.0 a above, le_false k a (omega arith)) refl
              | inr below ↦
                  rw (le_true x.0 a below, le_true k a (omega arith)) (newer_same k a (x.0 + 1) v x (last_at a es) same (omega arith) (last_within a (x.0 + 1) es r.1))
            ])
        | inr apart ↦
            let above : x.0 < k = omega arith in
            let ih = last_insert a (x.0 + 1) es k v r.1 in
            rw (cmp_greater k x.0 above) (elim (cases_lt a k) [
              | inl past ↦ let same = rw (le_false k a past) at ih in rw (same, le_false k a past) refl
              | inr inside ↦
                  let new = rw (le_true k a inside) at ih in
                  rw (new, le_true k a inside, le_true x.0 a (omega arith)) (newer_later k v x (last_at a es) above)
            ])
      ]
    ]

-- ---- the standard's words say what the reader asks

eq_true : (x y : ℕ) → x ≡ y → nat_eq x y ≡ true
eq_true x y h = grind (arith, nat_tests)

eq_false : (x y : ℕ) → (x ≡ y → ⊥) → nat_eq x y ≡ false
eq_false x y h = grind (arith, nat_tests)

eq_flip : (x y : ℕ) → nat_eq x y ≡ nat_eq y x
eq_flip x y =
    elim (cases_eq x y) [
      | inl same ↦ rw (eq_true x y same, eq_true y x (sym same)) refl
      | inr other ↦ rw (eq_false x y other, eq_false y x (λ e. other (sym e))) refl
    ]

letter_two : (y : ℕ) → is_mark_name (36 ∷ y ∷ []) ≡ is_mapping_name (36 ∷ y ∷ [])
letter_two y =
    elim (cases_eq y 116) [
      | inl t ↦ rw t refl
      | inr not_t ↦ elim (cases_eq y 100) [
        | inl d ↦ rw d refl
        | inr not_d ↦ elim (cases_eq y 97) [
          | inl a ↦ rw a refl
          | inr not_a ↦
              rw (eq_flip 116 y, eq_flip 100 y, eq_flip 97 y, eq_false y 116 not_t, eq_false y 100 not_d, eq_false y 97 not_a) refl
        ]
      ]
    ]

eq_two : (n : ℕ) → nat_eq (suc (suc (suc n))) 2 ≡ false
eq_two n = eq_false (suc (suc (suc n))) 2 (omega arith)

le_four : (n : ℕ) → nat_le 4 (suc (suc (suc (suc n)))) ≡ true
le_four n = le_true 4 (suc (suc (suc (suc n)))) (omega arith)

letter_more : (y z : ℕ) (more : List ℕ) → is_mark_name (36 ∷ y ∷ z ∷ more) ≡ is_mapping_name (36 ∷ y ∷ z ∷ more)
letter_more y z [] =
    elim (cases_eq y 116) [
      | inl t ↦ rw t (dot z)
      | inr not_t ↦ elim (cases_eq y 100) [
        | inl d ↦ rw d (dot_d z)
        | inr not_d ↦ elim (cases_eq y 97) [
          | inl a ↦ rw a (dot_a z)
          | inr not_a ↦ rw (eq_flip 116 y, eq_flip 100 y, eq_flip 97 y, eq_false y 116 not_t, eq_false y 100 not_d, eq_false y 97 not_a) refl
        ]
      ]
    ]
  where
    dot : (z : ℕ) → is_mark_name (36 ∷ 116 ∷ z ∷ []) ≡ is_mapping_name (36 ∷ 116 ∷ z ∷ [])
    dot z = elim (cases_eq z 46) [ inl is ↦ rw is refl | inr other ↦ rw (eq_flip 46 z, eq_false z 46 other) refl ]

    dot_d : (z : ℕ) → is_mark_name (36 ∷ 100 ∷ z ∷ []) ≡ is_mapping_name (36 ∷ 100 ∷ z ∷ [])
    dot_d z = elim (cases_eq z 46) [ inl is ↦ rw is refl | inr other ↦ rw (eq_flip 46 z, eq_false z 46 other) refl ]

    dot_a : (z : ℕ) → is_mark_name (36 ∷ 97 ∷ z ∷ []) ≡ is_mapping_name (36 ∷ 97 ∷ z ∷ [])
    dot_a z = elim (cases_eq z 46) [ inl is ↦ rw is refl | inr other ↦ rw (eq_flip 46 z, eq_false z 46 other) refl ]
letter_more y z (w ∷ more) =
    elim (cases_eq y 116) [
      | inl t ↦ rw t (dot z)
      | inr not_t ↦ elim (cases_eq y 100) [
        | inl d ↦ rw d (dot_d z)
        | inr not_d ↦ elim (cases_eq y 97) [
          | inl a ↦ rw a (dot_a z)
          | inr not_a ↦ rw (eq_flip 116 y, eq_flip 100 y, eq_flip 97 y, eq_false y 116 not_t, eq_false y 100 not_d, eq_false y 97 not_a) refl
        ]
      ]
    ]
  where
    dot : (z : ℕ) → is_mark_name (36 ∷ 116 ∷ z ∷ w ∷ more) ≡ is_mapping_name (36 ∷ 116 ∷ z ∷ w ∷ more)
    dot z = elim (cases_eq z 46) [
      | inl is ↦ rw (is, eq_two (suc (length more)), le_four (length more)) refl
      | inr other ↦ rw (eq_flip 46 z, eq_false z 46 other, eq_two (suc (length more))) refl
    ]

    dot_d : (z : ℕ) → is_mark_name (36 ∷ 100 ∷ z ∷ w ∷ more) ≡ is_mapping_name (36 ∷ 100 ∷ z ∷ w ∷ more)
    dot_d z = elim (cases_eq z 46) [
      | inl is ↦ rw (is, eq_two (suc (length more)), le_four (length more)) refl
      | inr other ↦ rw (eq_flip 46 z, eq_false z 46 other, eq_two (suc (length more))) refl
    ]

    dot_a : (z : ℕ) → is_mark_name (36 ∷ 97 ∷ z ∷ w ∷ more) ≡ is_mapping_name (36 ∷ 97 ∷ z ∷ w ∷ more)
    dot_a z = elim (cases_eq z 46) [
      | inl is ↦ rw (is, eq_two (suc (length more)), le_four (length more)) refl
      | inr other ↦ rw (eq_flip 46 z, eq_false z 46 other, eq_two (suc (length more))) refl
    ]

name_is : (name : List ℕ) → is_mark_name name ≡ is_mapping_name name
name_is [] = refl
name_is (x ∷ []) =
    elim (cases_eq x 36) [
      | inl dollar ↦ rw dollar refl
      | inr other ↦ rw (eq_false x 36 other, eq_false 36 x (λ e. other (sym e))) refl
    ]
name_is (x ∷ y ∷ []) =
    elim (cases_eq x 36) [
      | inl dollar ↦ rw dollar (letter_two y)
      | inr other ↦ rw (eq_false x 36 other, eq_false 36 x (λ e. other (sym e))) refl
    ]
name_is (x ∷ y ∷ z ∷ more) =
    elim (cases_eq x 36) [
      | inl dollar ↦ rw dollar (letter_more y z more)
      | inr other ↦ rw (eq_false x 36 other, eq_false 36 x (λ e. other (sym e))) refl
    ]

no_info : (n : ℕ) → nat_eq n 0 ≡ (nat_eq (n / 16) 0 && nat_eq (n % 16) 0)
no_info n =
    elim (cases_eq n 0) [
      | inl none ↦ rw (eq_true n 0 none, eq_true (n / 16) 0 (omega arith), eq_true (n % 16) 0 (omega arith)) refl
      | inr some ↦ elim (cases_eq (n / 16) 0) [
        | inl low ↦ rw (eq_false n 0 some, eq_true (n / 16) 0 low, eq_false (n % 16) 0 (omega arith)) refl
        | inr high ↦ rw (eq_false n 0 some, eq_false (n / 16) 0 high) refl
      ]
    ]

mapping_is : (s : Symbol) → is_mark s ≡ is_mapping s
mapping_is s = rw (no_info s.info, name_is s.name) refl

and_more : (b c : Bool) → (b && c) ≡ true → (c && true) ≡ true
and_more true true h = refl
and_more true false h = absurd (false≢true h)
and_more false c h = absurd (false≢true h)

second : (y : ℕ) → nat_eq y 116 ≡ (nat_eq 116 y && true)
second y =
    elim (cases_eq y 116) [
      | inl t ↦ rw t refl
      | inr other ↦ rw (eq_flip 116 y, eq_false y 116 other) refl
    ]

eq_from : (x y : ℕ) → nat_eq x y ≡ true → x ≡ y
eq_from x y h = grind (arith, nat_tests)

code_name : (name : List ℕ) → is_mark_name name ≡ true → nat_eq (get_or name 1 0) 116 ≡ starts_with nat_eq name (codes "$t")
code_name [] h = refl
code_name (x ∷ []) h =
    elim (cases_eq x 36) [
      | inl dollar ↦ rw dollar refl
      | inr other ↦ rw (eq_false 36 x (λ e. other (sym e))) refl
    ]
code_name (x ∷ y ∷ more) h =
    let front = both_true (nat_eq x 36 && ((nat_eq y 116 || nat_eq y 100) || nat_eq y 97)) (nat_eq (length (x ∷ y ∷ more)) 2 || (nat_eq (get_or more 0 0) 46 && nat_le 4 (length (x ∷ y ∷ more)))) h in
    let dollar = eq_from x 36 (both_true (nat_eq x 36) ((nat_eq y 116 || nat_eq y 100) || nat_eq y 97) front.0).0 in
    rw dollar (second y)

code_is : (s : Symbol) → is_mapping s ≡ true → begins_code s ≡ says_code s
code_is s h = code_name s.name (both_true (is_mark_name s.name) true (ap (λ (b : Bool). b && true) (name_is s.name) ∙ and_more (nat_eq (s.info / 16) 0 && nat_eq (s.info % 16) 0) (is_mapping_name s.name) h)).0

-- ---- all that were seen

abbrev NotBelow : ℕ → Symbol → Type 0
NotBelow a s = is_mapping s ≡ true → a < s.value

abbrev AtMost : ℕ → Symbol → Symbol → Type 0
AtMost a m s = is_mapping s ≡ true → s.value ≤ a → s.value ≤ m.value

abbrev Below : ℕ → Symbol → Symbol → Type 0
Below a m s = is_mapping s ≡ true → s.value ≤ a → s.value < m.value

all_with : {X : Type 0} (P Q : X → Type 0) (xs : List X) → ((x : X) → P x → Q x) → All P xs → All Q xs
all_with P Q xs f h k d inside = f _ (h k d inside)

-- what was seen says what the entries say
abbrev pub Seen : ℕ → List Symbol → Option Entry → Type 0
Seen a seen o = ((m : Symbol) × Decides seen a m × (o ≡ Some (m.value, begins_code m))) ⊎ (All (NotBelow a) seen × (o ≡ None))

-- one more symbol, which says nothing of the address
keeps : (a : ℕ) (seen : List Symbol) (s : Symbol) (o : Option Entry) → NotBelow a s → Seen a seen o → Seen a (seen ++ s ∷ []) o
keeps a seen s o n (inr h) = inr (All-push (NotBelow a) seen s h.0 n, h.1)
keeps a seen s o n (inl h) =
    let d = h.1 in
    inl (
      h.0,
      record {
        before = d.before;
        after = d.after ++ s ∷ [];
        place = ap (λ (xs : List Symbol). xs ++ s ∷ []) d.place ∙ append_assoc d.before (h.0 ∷ d.after) (s ∷ []);
        mapping = d.mapping;
        below = d.below;
        greatest = d.greatest;
        last = All-push (Below a h.0) d.after s d.last (λ mark at. absurd (omega (arith, n mark)));
      },
      h.2,
    )

-- one more mapping symbol at or below the address
decides_last : (a : ℕ) (seen : List Symbol) (s : Symbol) → is_mapping s ≡ true → s.value ≤ a → All (AtMost a s) seen → Decides (seen ++ s ∷ []) a s
decides_last a seen s mark at h = record { before = seen; after = []; place = refl; mapping = mark; below = at; greatest = h; last = All-nil (Below a s) }

all_before : (a : ℕ) (seen : List Symbol) (m s : Symbol) → Decides seen a m → m.value ≤ s.value → All (AtMost a s) seen
all_before a seen m s d h =
    subst (λ (xs : List Symbol). All (AtMost a s) xs) (sym d.place)
    (All-append (AtMost a s) d.before (m ∷ d.after)
    (all_with (AtMost a m) (AtMost a s) d.before (λ t f mark at. omega (arith, f mark at)) d.greatest)
    (All-cons (AtMost a s) m d.after (λ mark at. h) (all_with (Below a m) (AtMost a s) d.after (λ t f mark at. omega (arith, f mark at)) d.last)))

adds : (a : ℕ) (seen : List Symbol) (s : Symbol) (o : Option Entry) → is_mapping s ≡ true → s.value ≤ a → Seen a seen o → Seen a (seen ++ s ∷ []) (newer s.value (begins_code s) o)
adds a seen s o mark at (inr h) =
    rw h.1 (inl (s, decides_last a seen s mark at (all_with (NotBelow a) (AtMost a s) seen (λ t f is below. absurd (omega (arith, f is))) h.0), refl))
adds a seen s o mark at (inl h) =
    let m = h.0 in
    let d = h.1 in
    elim (cases_lt s.value m.value) [
      | inl less ↦ rw (h.2, lt_true s.value m.value less) (inl (
        m,
        record {
          before = d.before;
          after = d.after ++ s ∷ [];
          place = ap (λ (xs : List Symbol). xs ++ s ∷ []) d.place ∙ append_assoc d.before (m ∷ d.after) (s ∷ []);
          mapping = d.mapping;
          below = d.below;
          greatest = d.greatest;
          last = All-push (Below a m) d.after s d.last (λ is below. less);
        },
        refl,
      ))
      | inr more ↦ rw (h.2, lt_false s.value m.value more) (inl (s, decides_last a seen s mark at (all_before a seen m s d more), refl))
    ]

step_mark : (a : ℕ) (seen : List Symbol) (es : List Entry) (s : Symbol) → is_mapping s ≡ true → Rising 0 es → Seen a seen (last_at a es)
    → Seen a (seen ++ s ∷ []) (last_at a (insert_entry nat_cmp es s.value (begins_code s)))
step_mark a seen es s mark r h =
    elim (cases_lt a s.value) [
      | inl above ↦ rw (last_insert a 0 es s.value (begins_code s) r, le_false s.value a above) (keeps a seen s (last_at a es) (λ is. above) h)
      | inr at ↦ rw (last_insert a 0 es s.value (begins_code s) r, le_true s.value a at) (adds a seen s (last_at a es) mark at h)
    ]

seen_step : (a : ℕ) (seen : List Symbol) (es : List Entry) (s : Symbol) → Rising 0 es → Seen a seen (last_at a es)
    → Rising 0 (with_mark es s) × Seen a (seen ++ s ∷ []) (last_at a (with_mark es s))
seen_step a seen es s r h = by_test (is_mark s) refl
  where
    by_test : (b : Bool) → is_mark s ≡ b → Rising 0 (cond b (insert_entry nat_cmp es s.value (begins_code s)) es) × Seen a (seen ++ s ∷ []) (last_at a (cond b (insert_entry nat_cmp es s.value (begins_code s)) es))
    by_test true e = (rising_insert 0 es s.value (begins_code s) (omega arith) r, step_mark a seen es s (sym (mapping_is s) ∙ e) r h)
    by_test false e = (r, keeps a seen s (last_at a es) (λ is. absurd (false≢true (sym e ∙ mapping_is s ∙ is))) h)

seen_all : (a : ℕ) (seen rest : List Symbol) (es : List Entry) → Rising 0 es → Seen a seen (last_at a es) → Rising 0 (fold with_mark es rest) × Seen a (seen ++ rest) (last_at a (fold with_mark es rest))
seen_all a seen [] es r h = (r, subst (λ (xs : List Symbol). Seen a xs (last_at a es)) (sym (append-nil seen)) h)
seen_all a seen (s ∷ rest) es r h =
    let step = seen_step a seen es s r h in
    subst (λ (xs : List Symbol). Rising 0 (fold with_mark (with_mark es s) rest) × Seen a xs (last_at a (fold with_mark (with_mark es s) rest))) (append_assoc seen (s ∷ []) rest)
    (seen_all a (seen ++ s ∷ []) rest (with_mark es s) step.0 step.1)

pub marks_rising : (symbols : List Symbol) → Rising 0 (marks_of symbols)
unfolding marks_of
marks_rising symbols = (seen_all 0 [] symbols [] tt (inr (All-nil (NotBelow 0), refl))).0

marked_by : (a : ℕ) (symbols : List Symbol) (es : List Entry) → Seen a symbols (last_at a es) → IsMarkedBy symbols a (is_code_by_marks es a)
marked_by a symbols es (inl h) = inl (h.0, h.1, marked_from a true es ∙ ap (says true) h.2 ∙ code_is h.0 h.1.mapping)
marked_by a symbols es (inr h) = inr (h.0, marked_from a true es ∙ ap (says true) h.1)

pub marks_decide : (a : ℕ) (symbols : List Symbol) → IsMarkedBy symbols a (is_code_by_marks (marks_of symbols) a)
unfolding marks_of
marks_decide a symbols = marked_by a symbols (fold with_mark [] symbols) (seen_all a [] symbols [] tt (inr (All-nil (NotBelow a), refl))).1
