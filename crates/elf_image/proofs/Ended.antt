-- The functions of an image rise, and none reaches into the next.
use Rattle.std.proofs.Common.{◌≡◌, ℕ, ◌+◌, ◌-◌, ◌<◌, ◌≤◌, min, Bool, true, false, not, ◌&&◌, ◌≢◌, cond, nat_eq, List, [], ◌∷◌, fold, Option, Some, None, is_some, refl, sym, arith}
use Rattle.std.proofs.lemmas.Bool.Decides.{nat_tests}
use Rattle.std.specs.List.{find}
use Rattle.std.specs.Option.{IfSome}
use Rattle.std.specs.Map.{values_of, keys_of, lookup}
use Rattle.std.specs.Ordering.{nat_cmp, match_ordering}
use Rattle.std.specs.declared.cmp.Ordering.{Ordering}
use Rattle.std.specs.declared.cmp.Ordering.TheVariants.{Less, Equal, Greater}
use Rattle.std.specs.BTreeMap.{insert_entry, is_at}
use Rattle.std.specs.List.Sorted.{IsStrictlySortedBy}
use Rattle.std.proofs.lemmas.Map.Keys.{sorted_head, sorted_tail}
use Rattle.elf_image.specs.Segments.{Segment, holds, segment_end}
use Rattle.elf_image.specs.Symbols.{Symbol}
use Rattle.elf_image.specs.Functions.{Function, is_thumb_function, function_in, segment_at, function_of_symbol, insert_first, functions_by_start, clip_ends, FunctionsFrom}

-- each stands at its start and has an address
abbrev pub AreStarted : List (ℕ × Function) → Type 0
AreStarted [] = Unit {0}
AreStarted (e ∷ more) = (e.0 ≡ e.1.start) × (e.1.start < e.1.end) × AreStarted more

nat_cmp_less : (x y : ℕ) → nat_cmp x y ≡ Less → x < y
nat_cmp_less x y h = grind (arith, nat_tests)

nat_cmp_equal : (x y : ℕ) → nat_cmp x y ≡ Equal → x ≡ y
nat_cmp_equal x y h = grind (arith, nat_tests)

-- ---- a function has an address

passes_step : {X : Type 0} (p : X → Bool) (x : X) (o : Option X) (b : Bool) → p x ≡ b → IfSome o (λ y. p y ≡ true) → IfSome (cond b (Some x) o) (λ y. p y ≡ true)
passes_step p x o true e h = e
passes_step p x o false e h = h

pub find_passes : {X : Type 0} (p : X → Bool) (xs : List X) → IfSome (find p xs) (λ y. p y ≡ true)
find_passes p [] = tt
find_passes p (x ∷ xs) = passes_step p x (find p xs) (p x) refl (find_passes p xs)

chosen : (b : Bool) (f : Function) → f.start < f.end → IfSome (cond b (Some f) None) (λ g. g.start < g.end)
chosen true f h = h
chosen false f h = tt

inside : (a : ℕ) (s : Segment) → holds a s ≡ true → a < segment_end s
inside a s h = grind (arith, nat_tests)

limit_above : (b : Bool) (a end size : ℕ) → a < end → (nat_eq size 0 ≡ b) → a < cond b end (min end (a + size))
limit_above true a end size h e = h
limit_above false a end size h e = let some : size ≢ 0 = grind (arith, nat_tests) in omega arith

in_proper : (s : Symbol) (o : Option Segment) → IfSome o (λ segment. holds (s.value - 1) segment ≡ true) → IfSome (function_in s o) (λ f. f.start < f.end)
in_proper s None h = tt
in_proper s (Some segment) h =
    chosen (segment.exec && not segment.write) _ (limit_above (nat_eq s.size 0) (s.value - 1) (segment_end segment) s.size (inside (s.value - 1) segment h) refl)

both_ways : (b : Bool) (o : Option Function) → IfSome o (λ f. f.start < f.end) → IfSome (cond b o None) (λ f. f.start < f.end)
both_ways true o h = h
both_ways false o h = tt

proper : (segments : List Segment) (s : Symbol) → IfSome (function_of_symbol segments s) (λ f. f.start < f.end)
unfolding function_of_symbol
proper segments s = both_ways (is_thumb_function s) (function_in s (segment_at segments (s.value - 1))) (in_proper s (segment_at segments (s.value - 1)) (find_passes (holds (s.value - 1)) segments))

-- ---- so have all entries

started_step : (o : Ordering) (f : Function) (e : ℕ × Function) (es rest : List (ℕ × Function)) → nat_cmp f.start e.0 ≡ o → f.start < f.end
    → AreStarted (e ∷ es) → AreStarted rest → AreStarted (match_ordering o ((f.start, f) ∷ e ∷ es) ((e.0, f) ∷ es) (e ∷ rest))
started_step Less f e es rest is some h i = (refl, some, h)
started_step Equal f e es rest is some h i = (sym (nat_cmp_equal f.start e.0 is), some, h.2)
started_step Greater f e es rest is some h i = (h.0, h.1, i)

started_insert : (es : List (ℕ × Function)) (f : Function) → f.start < f.end → AreStarted es → AreStarted (insert_entry nat_cmp es f.start f)
started_insert [] f some h = (refl, some, tt)
started_insert (e ∷ es) f some h = started_step (nat_cmp f.start e.0) f e es (insert_entry nat_cmp es f.start f) refl some h (started_insert es f some h.2)

started_unless : (b : Bool) (es more : List (ℕ × Function)) → AreStarted es → AreStarted more → AreStarted (cond b es more)
started_unless true es more h i = h
started_unless false es more h i = i

started_put : (es : List (ℕ × Function)) (o : Option Function) → IfSome o (λ f. f.start < f.end) → AreStarted es → AreStarted (insert_first es o)
started_put es None some h = h
started_put es (Some f) some h = started_unless (is_some (lookup (is_at (nat_cmp f.start)) es)) es (insert_entry nat_cmp es f.start f) h (started_insert es f some h)

pub started_fold : (segments : List Segment) (es : List (ℕ × Function)) (symbols : List Symbol) → AreStarted es
    → AreStarted (fold (λ (entries : List (ℕ × Function)) (s : Symbol). insert_first entries (function_of_symbol segments s)) es symbols)
started_fold segments es [] h = h
started_fold segments es (s ∷ symbols) h =
    started_fold segments (insert_first es (function_of_symbol segments s)) symbols (started_put es (function_of_symbol segments s) (proper segments s) h)

-- ---- cut at the next one's start

ended_from : (low : ℕ) (e : ℕ × Function) (es : List (ℕ × Function)) → low ≤ e.0 → AreStarted (e ∷ es) → IsStrictlySortedBy nat_cmp (keys_of (e ∷ es))
    → FunctionsFrom low (clip_ends (values_of (e ∷ es)))
ended_from low e [] above h s = (omega (arith, h.0), omega (arith, h.1), tt)
ended_from low e (f ∷ es) above h s =
    let rising = nat_cmp_less e.0 f.0 (sorted_head nat_cmp e.0 (keys_of (f ∷ es)) s).0 in
    let rest = ended_from (min e.1.end f.1.start) f es (omega (arith, h.2.0)) h.2 (sorted_tail nat_cmp e.0 (keys_of (f ∷ es)) s) in
    (omega (arith, h.0), omega (arith, h.0, h.1, h.2.0), rest)

pub ended_all : (es : List (ℕ × Function)) → AreStarted es → IsStrictlySortedBy nat_cmp (keys_of es) → FunctionsFrom 0 (clip_ends (values_of es))
ended_all [] h s = tt
ended_all (e ∷ es) h s = ended_from 0 e es (omega arith) h s

pub functions_from : (segments : List Segment) (symbols : List Symbol) (es : List (ℕ × Function)) → es ≡ functions_by_start segments symbols → IsStrictlySortedBy nat_cmp (keys_of es)
    → FunctionsFrom 0 (clip_ends (values_of es))
functions_from segments symbols es is s = ended_all es (rw is (started_fold segments [] symbols tt)) s
