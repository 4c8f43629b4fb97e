-- The functions of an image: where they begin, whose names they have, and where they end.
use Rattle.std.proofs.Common.{◌≡◌, ◌≢◌, ◌⊎◌, ℕ, ◌+◌, ◌-◌, ◌%◌, ◌<◌, ◌≤◌, min, Bool, true, false, not, ◌&&◌, cond, nat_eq, List, [], ◌∷◌, fold, Option, Some, None, is_some, option_and_then, refl, sym, ◌∙◌, ap, inl, inr, arith}
use Rattle.std.proofs.lemmas.Bool.Decides.{nat_tests}
use Rattle.std.proofs.lemmas.Bool.{cases_lt, cases_eq, false≢true}
use Rattle.std.proofs.lemmas.List.Elements.{All-cons, All-nil, All-head, All-tail}
use Rattle.std.specs.List.{find, list_any, All}
use Rattle.std.specs.Option.{IfSome, option_or}
use Rattle.std.specs.Map.{values_of}
use Rattle.std.specs.Ordering.{nat_cmp}
use Rattle.std.specs.BTreeMap.{insert_entry}
use Rattle.elf_image.specs.Segments.{Segment, holds, segment_end, RiseFrom}
use Rattle.elf_image.specs.Symbols.{Symbol, HasPlainName}
use Rattle.elf_image.specs.Functions.{Function, is_thumb_function, function_in, segment_at, function_of_symbol, insert_first, functions_by_start, next_start, clip_ends, functions_of, FunctionsFrom}
use Rattle.elf_image.specs.Image.{IsWithinCode}
use Rattle.elf_image.specs.Laws.{is_in_code, is_function_at, IsFunctionOf, AreFunctionsOf}
use Rattle.elf_image.proofs.Entries.{at_key, lookup_insert, lookup_first, lookup_rest, lookup_below, Rising, rising_insert, sorted_from_rising, test_eq, test_ne}
use Rattle.elf_image.proofs.Lookups.{any_is_some, filtered, find_holder, holds_found, both_true}
use Rattle.elf_image.proofs.Ended.{AreStarted, started_fold, find_passes, ended_all}

eq_from : (x y : ℕ) → nat_eq x y ≡ true → x ≡ y
eq_from x y h = grind (arith, nat_tests)

-- ---- a segment with code

abbrev pub is_code_segment : Segment → Bool
is_code_segment g = g.exec && not g.write

abbrev pub coded : Option Segment → Bool
coded None = false
coded (Some g) = is_code_segment g

and_test : (b c : Bool) (g : Segment) → b ≡ true → is_some (cond (b && c) (Some g) None) ≡ c
and_test true true g h = refl
and_test true false g h = refl
and_test false c g h = absurd (false≢true h)

coded_as : (segments : List Segment) (a : ℕ) (o : Option Segment) → segment_at segments a ≡ o → find (λ g. holds a g && is_code_segment g) segments ≡ filtered (λ g. holds a g && is_code_segment g) o
    → list_any (λ g. holds a g && is_code_segment g) segments ≡ coded o
coded_as segments a None e f = any_is_some (λ g. holds a g && is_code_segment g) segments ∙ ap is_some f
coded_as segments a (Some g) e f =
    any_is_some (λ g. holds a g && is_code_segment g) segments ∙ ap is_some f ∙ and_test (holds a g) (is_code_segment g) g (holds_found a segments g e)

-- a read-only segment with code holds the address exactly where the one that holds it is such a segment
in_code : (segments : List Segment) (a : ℕ) → RiseFrom 0 segments → is_in_code segments a ≡ coded (segment_at segments a)
in_code segments a h =
    coded_as segments a (segment_at segments a) refl
    (find_holder (λ g. holds a g && is_code_segment g) a segments (λ g short t. (both_true (holds a g) (is_code_segment g) t).0) h)

-- ---- what a symbol says

abbrev pub starts_at : ℕ → Option Function → Bool
starts_at a None = false
starts_at a (Some f) = nat_eq a f.start

function_starts : (a : ℕ) (s : Symbol) (o : Option Segment) → a ≡ s.value - 1 → coded o ≡ starts_at a (function_in s o)
function_starts a s None e = refl
function_starts a s (Some g) e = code_step (is_code_segment g)
  where
    code_step : (b : Bool) → b ≡ starts_at a (cond b (Some (record { name = s.name; start = s.value - 1; end = cond (nat_eq s.size 0) (segment_end g) (min (segment_end g) (s.value - 1 + s.size)) })) None)
    code_step true = rw (test_eq a (s.value - 1) e) refl
    code_step false = refl

starts_other : (a : ℕ) (s : Symbol) (o : Option Segment) → (a ≡ s.value - 1 → ⊥) → starts_at a (function_in s o) ≡ false
starts_other a s None ne = refl
starts_other a s (Some g) ne = code_step (is_code_segment g)
  where
    code_step : (b : Bool) → starts_at a (cond b (Some (record { name = s.name; start = s.value - 1; end = cond (nat_eq s.size 0) (segment_end g) (min (segment_end g) (s.value - 1 + s.size)) })) None) ≡ false
    code_step true = test_ne a (s.value - 1) ne
    code_step false = refl

odd_value : (s : Symbol) → is_thumb_function s ≡ true → s.value % 2 ≡ 1
odd_value s h =
    let front = both_true (nat_eq (s.info % 16) 2 && nat_eq (s.value % 2) 1) (not (nat_eq s.section 0)) h in
    let odd = both_true (nat_eq (s.info % 16) 2) (nat_eq (s.value % 2) 1) front.0 in
    eq_from (s.value % 2) 1 odd.1

says_step : (segments : List Segment) (s : Symbol) (a : ℕ) (b : Bool) → is_thumb_function s ≡ b → RiseFrom 0 segments
    → ((b && nat_eq s.value (a + 1)) && is_in_code segments a) ≡ starts_at a (cond b (function_in s (segment_at segments (s.value - 1))) None)
says_step segments s a false e h = refl
says_step segments s a true e h =
    let odd = odd_value s e in
    elim (cases_eq s.value (a + 1)) [
      | inl here ↦
          let at : a ≡ s.value - 1 = omega arith in
          rw (test_eq s.value (a + 1) here) (in_code segments a h ∙ ap (λ (x : ℕ). coded (segment_at segments x)) at ∙ function_starts a s (segment_at segments (s.value - 1)) at)
      | inr other ↦
          let apart : a ≡ s.value - 1 → ⊥ = omega arith in
          rw (test_ne s.value (a + 1) other) (sym (starts_other a s (segment_at segments (s.value - 1)) apart))
    ]

regroup : (f d o c : Bool) → ((((f && d) && true) && o) && c) ≡ ((((f && o) && d) && true) && c)
regroup true true true c = refl
regroup true true false c = refl
regroup true false true c = refl
regroup true false false c = refl
regroup false d o c = refl

no_value : (f g e c : Bool) → (((f && false) && e) && c) ≡ ((g && false) && c)
no_value true true e c = refl
no_value true false e c = refl
no_value false true e c = refl
no_value false false e c = refl

parity : (v a : ℕ) → v ≡ a + 1 → nat_eq (a % 2) 0 ≡ nat_eq (v % 2) 1
parity v a e =
    elim (cases_eq (a % 2) 0) [
      | inl even ↦ rw (test_eq (a % 2) 0 even, test_eq (v % 2) 1 (omega arith)) refl
      | inr odd ↦ rw (test_ne (a % 2) 0 odd, test_ne (v % 2) 1 (omega arith)) refl
    ]

-- the standard's words say what the reader asks
words : (segments : List Segment) (s : Symbol) (a : ℕ) → is_function_at segments a s ≡ ((is_thumb_function s && nat_eq s.value (a + 1)) && is_in_code segments a)
words segments s a =
    elim (cases_eq s.value (a + 1)) [
      | inl here ↦
          rw (test_eq s.value (a + 1) here, parity s.value a here)
          (regroup (nat_eq (s.info % 16) 2) (not (nat_eq s.section 0)) (nat_eq (s.value % 2) 1) (is_in_code segments a))
      | inr other ↦ rw (test_ne s.value (a + 1) other) (no_value (nat_eq (s.info % 16) 2 && not (nat_eq s.section 0)) (is_thumb_function s) (nat_eq (a % 2) 0) (is_in_code segments a))
    ]

says : (segments : List Segment) (s : Symbol) (a : ℕ) → RiseFrom 0 segments → is_function_at segments a s ≡ starts_at a (function_of_symbol segments s)
unfolding function_of_symbol
says segments s a h = words segments s a ∙ says_step segments s a (is_thumb_function s) refl h

-- ---- the first symbol at a start

or_none : {X : Type 0} (o : Option X) → o ≡ option_or o None
or_none None = refl
or_none (Some x) = refl

or_some : {X : Type 0} (o p : Option X) → is_some o ≡ true → o ≡ option_or o p
or_some None p h = absurd (false≢true h)
or_some (Some x) p h = refl

or_assoc : {X : Type 0} (o p q : Option X) → option_or (option_or o p) q ≡ option_or o (option_or p q)
or_assoc None p q = refl
or_assoc (Some x) p q = refl

none_from : {X : Type 0} (o : Option X) → is_some o ≡ false → o ≡ None
none_from None h = refl
none_from (Some x) h = absurd cc

abbrev pub only : ℕ → Option Function → Option Function
only a None = None
only a (Some f) = cond (nat_eq a f.start) (Some f) None

put_some : (a : ℕ) (es : List (ℕ × Function)) (f : Function) (b : Bool) → is_some (at_key f.start es) ≡ b
    → at_key a (cond b es (insert_entry nat_cmp es f.start f)) ≡ option_or (at_key a es) (only a (Some f))
put_some a es f true e =
    elim (cases_eq a f.start) [
      | inl here ↦ or_some (at_key a es) (only a (Some f)) (ap (λ (x : ℕ). is_some (at_key x es)) here ∙ e)
      | inr other ↦ or_none (at_key a es) ∙ ap (λ (b : Bool). option_or (at_key a es) (cond b (Some f) None)) (sym (test_ne a f.start other))
    ]
put_some a es f false e =
    elim (cases_eq a f.start) [
      | inl here ↦
          let none : at_key a es ≡ None = ap (λ (x : ℕ). at_key x es) here ∙ none_from (at_key f.start es) e in
          lookup_insert a es f.start f ∙ ap (λ (b : Bool). cond b (Some f) (at_key a es)) (test_eq a f.start here)
          ∙ ap (λ (b : Bool). option_or None (cond b (Some f) None)) (sym (test_eq a f.start here))
          ∙ ap (λ (o : Option Function). option_or o (only a (Some f))) (sym none)
      | inr other ↦
          lookup_insert a es f.start f ∙ ap (λ (b : Bool). cond b (Some f) (at_key a es)) (test_ne a f.start other)
          ∙ or_none (at_key a es) ∙ ap (λ (b : Bool). option_or (at_key a es) (cond b (Some f) None)) (sym (test_ne a f.start other))
    ]

put_at : (a : ℕ) (es : List (ℕ × Function)) (o : Option Function) → at_key a (insert_first es o) ≡ option_or (at_key a es) (only a o)
put_at a es None = or_none (at_key a es)
put_at a es (Some f) = put_some a es f (is_some (at_key f.start es)) refl

draft_step : (segments : List Segment) (s : Symbol) (a : ℕ) (rest : Option Symbol) (o : Option Function) → function_of_symbol segments s ≡ o
    → option_or (only a o) (option_and_then (function_of_symbol segments) rest) ≡ option_and_then (function_of_symbol segments) (cond (starts_at a o) (Some s) rest)
draft_step segments s a rest None e = refl
draft_step segments s a rest (Some f) e = by_test (nat_eq a f.start)
  where
    by_test : (b : Bool) → option_or (cond b (Some f) None) (option_and_then (function_of_symbol segments) rest) ≡ option_and_then (function_of_symbol segments) (cond b (Some s) rest)
    by_test true = sym e
    by_test false = refl

abbrev pub draft_at : List Segment → List Symbol → ℕ → Option Function
draft_at segments symbols a = option_and_then (function_of_symbol segments) (find (is_function_at segments a) symbols)

at_fold : (segments : List Segment) (a : ℕ) (es : List (ℕ × Function)) (symbols : List Symbol) → RiseFrom 0 segments
    → at_key a (fold (λ entries s. insert_first entries (function_of_symbol segments s)) es symbols) ≡ option_or (at_key a es) (draft_at segments symbols a)
at_fold segments a es [] h = or_none (at_key a es)
at_fold segments a es (s ∷ symbols) h =
    at_fold segments a (insert_first es (function_of_symbol segments s)) symbols h
    ∙ ap (λ (o : Option Function). option_or o (draft_at segments symbols a)) (put_at a es (function_of_symbol segments s))
    ∙ or_assoc (at_key a es) (only a (function_of_symbol segments s)) (draft_at segments symbols a)
    ∙ ap (λ (o : Option Function). option_or (at_key a es) o)
    (draft_step segments s a (find (is_function_at segments a) symbols) (function_of_symbol segments s) refl
    ∙ ap (λ (b : Bool). option_and_then (function_of_symbol segments) (cond b (Some s) (find (is_function_at segments a) symbols))) (sym (says segments s a h)))

rising_put : (es : List (ℕ × Function)) (o : Option Function) → Rising 0 es → Rising 0 (insert_first es o)
rising_put es None h = h
rising_put es (Some f) h = by_test (is_some (at_key f.start es))
  where
    by_test : (b : Bool) → Rising 0 (cond b es (insert_entry nat_cmp es f.start f))
    by_test true = h
    by_test false = rising_insert 0 es f.start f (omega arith) h

rising_fold : (segments : List Segment) (es : List (ℕ × Function)) (symbols : List Symbol) → Rising 0 es
    → Rising 0 (fold (λ entries s. insert_first entries (function_of_symbol segments s)) es symbols)
rising_fold segments es [] h = h
rising_fold segments es (s ∷ symbols) h = rising_fold segments (insert_first es (function_of_symbol segments s)) symbols (rising_put es (function_of_symbol segments s) h)

-- ---- each cut at the next one's start

record Cut (total : ℕ → Option Function) (f : Function) : Type 0 where
  pub draft : Function
  pub found : total f.start ≡ Some draft
  pub name : f.name ≡ draft.name
  pub by_draft : f.end ≤ draft.end
  pub by_next : (b : ℕ) → f.start < b → is_some (total b) ≡ true → f.end ≤ b
  pub least : (f.end ≡ draft.end) ⊎ (is_some (total f.end) ≡ true)

Agree : (ℕ → Option Function) → ℕ → List (ℕ × Function) → Type 0
Agree total low es = (a : ℕ) → low ≤ a → at_key a es ≡ total a

some_not_none : (o : Option Function) → o ≡ None → is_some o ≡ true → ⊥
some_not_none o e h = false≢true (sym (ap is_some e) ∙ h)

cut_one : (total : ℕ → Option Function) (e : ℕ × Function) (es : List (ℕ × Function)) → Rising e.0 (e ∷ es) → AreStarted (e ∷ es) → ((a : ℕ) → e.0 ≤ a → at_key a (e ∷ es) ≡ total a)
    → Cut total (record e.1 { end = min e.1.end (next_start (values_of es) e.1.end) })
cut_one total e [] r s t = record {
  draft = e.1;
  found = ap total (sym s.0) ∙ sym (t e.0 (omega arith)) ∙ lookup_first e.0 e [] refl;
  name = refl;
  by_draft = omega arith;
  by_next = λ b above some. absurd (some_not_none (total b) (sym (t b (omega (arith, s.0, above))) ∙ lookup_rest b e [] (omega (arith, s.0, above))) some);
  least = inl (omega arith);
}
cut_one total e (g ∷ es) r s t = record {
  draft = e.1;
  found = ap total (sym s.0) ∙ sym (t e.0 (omega arith)) ∙ lookup_first e.0 e (g ∷ es) refl;
  name = refl;
  by_draft = omega arith;
  by_next = λ b above some.
      elim (cases_lt b g.0) [
        | inl below ↦
            let none : total b ≡ None =
            sym (t b (omega (arith, s.0, above))) ∙ lookup_rest b e (g ∷ es) (omega (arith, s.0, above)) ∙ lookup_below b g.0 (g ∷ es) below (omega arith, r.1.1) in
            absurd (some_not_none (total b) none some)
        | inr at ↦ omega (arith, s.2.0)
      ];
  least = elim (cases_lt g.1.start e.1.end) [
    | inl sooner ↦
        let ends : min e.1.end g.1.start ≡ g.0 = omega (arith, s.2.0) in
        let found : total g.0 ≡ Some g.1 =
        sym (t g.0 (omega (arith, r.1.0))) ∙ lookup_rest g.0 e (g ∷ es) (omega (arith, r.1.0)) ∙ lookup_first g.0 g es refl in
        inr (ap (λ (x : ℕ). is_some (total x)) ends ∙ ap is_some found)
    | inr later ↦ inl (omega arith)
  ];
}

cut_all : (total : ℕ → Option Function) (low : ℕ) (es : List (ℕ × Function)) → Rising low es → AreStarted es → ((a : ℕ) → low ≤ a → at_key a es ≡ total a)
    → All (Cut total) (clip_ends (values_of es))
cut_all total low [] r s t = All-nil (Cut total)
cut_all total low (e ∷ es) r s t =
    All-cons (Cut total) (record e.1 { end = min e.1.end (next_start (values_of es) e.1.end) }) (clip_ends (values_of es))
    (cut_one total e es (omega arith, r.1) s (λ a above. t a (omega (arith, r.0))))
    (cut_all total (e.0 + 1) es r.1 s.2 (λ a above. sym (lookup_rest a e es (omega arith)) ∙ t a (omega (arith, r.0))))

any_start : (a : ℕ) (es : List (ℕ × Function)) → AreStarted es → list_any (λ f. nat_eq f.start a) (clip_ends (values_of es)) ≡ is_some (at_key a es)
any_start a [] s = refl
any_start a (e ∷ es) s =
    elim (cases_eq a e.0) [
      | inl here ↦ rw (test_eq e.1.start a (omega (arith, s.0))) (sym (ap is_some (lookup_first a e es here)))
      | inr other ↦ rw (test_ne e.1.start a (omega (arith, s.0))) (any_start a es s.2 ∙ ap is_some (sym (lookup_rest a e es other)))
    ]

-- ---- what the first symbol tells of a function

-- the entry that a symbol gives alone
record Draft (segments : List Segment) (s : Symbol) (f : Function) : Type 0 where
  pub segment : Segment
  pub holder : segment_at segments (s.value - 1) ≡ Some segment
  pub code : is_code_segment segment ≡ true
  pub name : f.name ≡ s.name
  pub start : f.start ≡ s.value - 1
  pub end : f.end ≡ cond (nat_eq s.size 0) (segment_end segment) (min (segment_end segment) (s.value - 1 + s.size))

drafted : (segments : List Segment) (s : Symbol) (f : Function) (g : Segment) (b : Bool) → segment_at segments (s.value - 1) ≡ Some g → is_code_segment g ≡ b
    → cond b (Some (record { name = s.name; start = s.value - 1; end = cond (nat_eq s.size 0) (segment_end g) (min (segment_end g) (s.value - 1 + s.size)) })) None ≡ Some f
    → Draft segments s f
drafted segments s f g true e code h =
    let is : record { name = s.name; start = s.value - 1; end = cond (nat_eq s.size 0) (segment_end g) (min (segment_end g) (s.value - 1 + s.size)) } ≡ f = cc in
    record { segment = g; holder = e; code = code; name = ap (λ (x : Function). x.name) (sym is); start = ap (λ (x : Function). x.start) (sym is); end = ap (λ (x : Function). x.end) (sym is) }
drafted segments s f g false e code h = absurd cc

draft_in : (segments : List Segment) (s : Symbol) (f : Function) (o : Option Segment) → segment_at segments (s.value - 1) ≡ o → function_in s o ≡ Some f → Draft segments s f
draft_in segments s f None e h = absurd cc
draft_in segments s f (Some g) e h = drafted segments s f g (is_code_segment g) e refl h

draft_if : (segments : List Segment) (s : Symbol) (f : Function) (b : Bool) → is_thumb_function s ≡ b → cond b (function_in s (segment_at segments (s.value - 1))) None ≡ Some f
    → (is_thumb_function s ≡ true) × Draft segments s f
draft_if segments s f true e h = (e, draft_in segments s f (segment_at segments (s.value - 1)) refl h)
draft_if segments s f false e h = absurd cc

draft_from : (segments : List Segment) (s : Symbol) (f : Function) → function_of_symbol segments s ≡ Some f → (is_thumb_function s ≡ true) × Draft segments s f
unfolding function_of_symbol
draft_from segments s f h = draft_if segments s f (is_thumb_function s) refl h

record Found (segments : List Segment) (symbols : List Symbol) (a : ℕ) (f : Function) : Type 0 where
  pub symbol : Symbol
  pub first : find (is_function_at segments a) symbols ≡ Some symbol
  pub draft : Draft segments symbol f
  pub value : symbol.value ≡ a + 1
  pub odd : symbol.value % 2 ≡ 1

found_step : (segments : List Segment) (symbols : List Symbol) (a : ℕ) (f : Function) (o : Option Symbol) → find (is_function_at segments a) symbols ≡ o
    → IfSome o (λ s. is_function_at segments a s ≡ true) → option_and_then (function_of_symbol segments) o ≡ Some f → Found segments symbols a f
found_step segments symbols a f None e p h = absurd cc
found_step segments symbols a f (Some s) e p h =
    let d = draft_from segments s f h in
    let front = both_true (is_thumb_function s && nat_eq s.value (a + 1)) (is_in_code segments a) (sym (words segments s a) ∙ p) in
    let at = both_true (is_thumb_function s) (nat_eq s.value (a + 1)) front.0 in
    record { symbol = s; first = e; draft = d.1; value = eq_from s.value (a + 1) at.1; odd = odd_value s d.0 }

found_from : (segments : List Segment) (symbols : List Symbol) (a : ℕ) (f : Function) → draft_at segments symbols a ≡ Some f → Found segments symbols a f
found_from segments symbols a f h =
    found_step segments symbols a f (find (is_function_at segments a) symbols) refl (find_passes (is_function_at segments a) symbols) h

-- some symbol says so exactly where the first one gives a function
is_drafted : (segments : List Segment) (a : ℕ) (o : Option Symbol) → RiseFrom 0 segments → IfSome o (λ s. is_function_at segments a s ≡ true)
    → is_some (option_and_then (function_of_symbol segments) o) ≡ is_some o
is_drafted segments a None h p = refl
is_drafted segments a (Some s) h p = by_option (function_of_symbol segments s) (sym (says segments s a h) ∙ p)
  where
    by_option : (o : Option Function) → starts_at a o ≡ true → is_some o ≡ true
    by_option None e = absurd (false≢true e)
    by_option (Some f) e = refl

any_drafted : (segments : List Segment) (symbols : List Symbol) (a : ℕ) → RiseFrom 0 segments → is_some (draft_at segments symbols a) ≡ list_any (is_function_at segments a) symbols
any_drafted segments symbols a h =
    is_drafted segments a (find (is_function_at segments a) symbols) h (find_passes (is_function_at segments a) symbols) ∙ sym (any_is_some (is_function_at segments a) symbols)

size_bound : (b : Bool) (end high start size : ℕ) → nat_eq size 0 ≡ b → end ≡ cond b high (min high (start + size)) → (end ≤ high) × (size ≢ 0 → end ≤ start + size)
size_bound true end high start size e h = (omega arith, λ ne. absurd (ne (eq_from size 0 e)))
size_bound false end high start size e h = (omega arith, λ ne. omega arith)

size_least : (b : Bool) (end high start size : ℕ) → nat_eq size 0 ≡ b → end ≡ cond b high (min high (start + size)) → (end ≡ high) ⊎ ((size ≢ 0) × (end ≡ start + size))
size_least true end high start size e h = inl h
size_least false end high start size e h =
    let some : size ≢ 0 = grind (arith, nat_tests) in
    elim (cases_lt high (start + size)) [ inl less ↦ inl (omega arith) | inr more ↦ inr (some, omega arith) ]

least_of : (segments : List Segment) (symbols : List Symbol) (f : Function) (size end : ℕ) (segment : Segment) → RiseFrom 0 segments
    → (end ≡ segment_end segment) ⊎ ((size ≢ 0) × (end ≡ f.start + size)) → (f.end ≡ end) ⊎ (is_some (draft_at segments symbols f.end) ≡ true)
    → (f.end ≡ segment_end segment) ⊎ (((size ≢ 0) × (f.end ≡ f.start + size)) ⊎ (list_any (is_function_at segments f.end) symbols ≡ true))
least_of segments symbols f size end segment h (inl x) (inl y) = inl (y ∙ x)
least_of segments symbols f size end segment h (inr x) (inl y) = inr (inl (x.0, y ∙ x.1))
least_of segments symbols f size end segment h x (inr y) = inr (inr (sym (any_drafted segments symbols f.end h) ∙ y))

function_is : (segments : List Segment) (symbols : List Symbol) (f : Function) → RiseFrom 0 segments → Cut (draft_at segments symbols) f → IsFunctionOf segments symbols f
function_is segments symbols f h c =
    let p = found_from segments symbols f.start c.draft c.found in
    let d = p.draft in
    let at : p.symbol.value - 1 ≡ f.start = omega (arith, p.value) in
    let end = rw at at d.end in
    let bound = size_bound (nat_eq p.symbol.size 0) c.draft.end (segment_end d.segment) f.start p.symbol.size refl end in
    record {
      symbol = p.symbol;
      first = p.first;
      name = c.name ∙ d.name;
      segment = d.segment;
      holder = ap (segment_at segments) (sym at) ∙ d.holder;
      ends = record {
        by_segment = omega (arith, c.by_draft, bound.0);
        by_size = λ some. omega (arith, c.by_draft, bound.1 some);
        by_next = λ b above any. c.by_next b above (any_drafted segments symbols b h ∙ any);
        least = least_of segments symbols f p.symbol.size c.draft.end d.segment h (size_least (nat_eq p.symbol.size 0) c.draft.end (segment_end d.segment) f.start p.symbol.size refl end) c.least;
      };
    }

all_found : (symbols : List Symbol) (p : Symbol → Bool) → All HasPlainName symbols → IfSome (find p symbols) HasPlainName
all_found [] p h = tt
all_found (s ∷ symbols) p h = by_test (p s) (All-head HasPlainName s symbols h) (all_found symbols p (All-tail HasPlainName s symbols h))
  where
    by_test : (b : Bool) → HasPlainName s → IfSome (find p symbols) HasPlainName → IfSome (cond b (Some s) (find p symbols)) HasPlainName
    by_test true here rest = here
    by_test false here rest = rest

plain_first : (o : Option Symbol) (s : Symbol) → o ≡ Some s → IfSome o HasPlainName → HasPlainName s
plain_first None s e h = absurd cc
plain_first (Some t) s e h = let same : t ≡ s = cc in rw (← same) h

even_below : (v a : ℕ) → v ≡ a + 1 → v % 2 ≡ 1 → a % 2 ≡ 0
even_below v a e h = omega arith

function_within : (segments : List Segment) (symbols : List Symbol) (f : Function) → RiseFrom 0 segments → All HasPlainName symbols → Cut (draft_at segments symbols) f → IsWithinCode segments f
function_within segments symbols f h plain c =
    let p = found_from segments symbols f.start c.draft c.found in
    let is = function_is segments symbols f h c in
    let d = p.draft in
    let at : p.symbol.value - 1 ≡ f.start = omega (arith, p.value) in
    let code = both_true d.segment.exec (not d.segment.write) d.code in
    record {
      even = even_below p.symbol.value f.start p.value p.odd;
      named = rw (c.name, d.name) (plain_first (find (is_function_at segments f.start) symbols) p.symbol p.first (all_found symbols (is_function_at segments f.start) plain));
      segment = d.segment;
      holder = ap (segment_at segments) (sym at) ∙ d.holder;
      exec = code.0;
      read_only = not_true d.segment.write code.1;
      within = omega (arith, c.by_draft, (size_bound (nat_eq p.symbol.size 0) c.draft.end (segment_end d.segment) (p.symbol.value - 1) p.symbol.size refl d.end).0);
    }
  where
    not_true : (b : Bool) → not b ≡ true → b ≡ false
    not_true true e = absurd (false≢true e)
    not_true false e = refl

-- ---- all functions

all_with : {X : Type 0} (P Q : X → Type 0) (xs : List X) → ((x : X) → P x → Q x) → All P xs → All Q xs
all_with P Q xs f h k d inside = f _ (h k d inside)

module _ (segments : List Segment) (symbols : List Symbol) (h : RiseFrom 0 segments) where
  started : AreStarted (functions_by_start segments symbols)
  started = started_fold segments [] symbols tt

  rising : Rising 0 (functions_by_start segments symbols)
  rising = rising_fold segments [] symbols tt

  totals : (a : ℕ) → at_key a (functions_by_start segments symbols) ≡ draft_at segments symbols a
  totals a = at_fold segments a [] symbols h

  cuts : All (Cut (draft_at segments symbols)) (functions_of segments symbols)
  unfolding functions_of
  cuts = cut_all (draft_at segments symbols) 0 (functions_by_start segments symbols) rising started (λ a above. totals a)

  pub functions_are : AreFunctionsOf segments symbols (functions_of segments symbols)
  unfolding functions_of
  functions_are = record {
    starts = λ a. any_start a (functions_by_start segments symbols) started ∙ ap is_some (totals a) ∙ any_drafted segments symbols a h;
    each = all_with (Cut (draft_at segments symbols)) (IsFunctionOf segments symbols) (functions_of segments symbols) (λ f c. function_is segments symbols f h c) cuts;
  }

  pub functions_within : All HasPlainName symbols → All (IsWithinCode segments) (functions_of segments symbols)
  functions_within plain =
      all_with (Cut (draft_at segments symbols)) (IsWithinCode segments) (functions_of segments symbols) (λ f c. function_within segments symbols f h plain c) cuts

  pub functions_rising : FunctionsFrom 0 (functions_of segments symbols)
  unfolding functions_of
  functions_rising = ended_all (functions_by_start segments symbols) started (sorted_from_rising 0 (functions_by_start segments symbols) rising)
