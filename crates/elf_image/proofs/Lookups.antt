-- What halving finds among segments and functions.
use Rattle.std.proofs.Common.{◌≡◌, ℕ, zero, suc, ◌+◌, ◌-◌, ◌<◌, ◌≤◌, Bool, true, false, not, ◌&&◌, ◌||◌, cond, nat_eq, nat_le, nat_lt, List, [], ◌∷◌, length, get_or, Option, Some, None, is_some, refl, sym, ◌∙◌, ap, zero-add, arith}
use Rattle.std.proofs.lemmas.Bool.Decides.{nat_tests}
use Rattle.std.specs.List.{prefix_len, find, position_from, sum_by}
use Rattle.elf_image.specs.Segments.{Segment, holds, segment_end, RiseFrom}
use Rattle.elf_image.specs.Functions.{Function, segment_at, FunctionsFrom, is_inside}
use Rattle.std.proofs.lemmas.List.Sums.{sum_by-cons}
use Rattle.std.specs.Map.{keys_of}
use Rattle.std.specs.Ordering.{nat_cmp}
use Rattle.std.specs.declared.cmp.Ordering.TheVariants.{Less}
use Rattle.std.specs.List.Sorted.{IsStrictlySortedBy}
use Rattle.std.proofs.lemmas.Map.Keys.{sorted_head, sorted_tail}
use Rattle.elf_image.specs.Marks.{is_code_by_marks}
use Rattle.elf_image.specs.Image.{holds_word}
use Rattle.std.proofs.lemmas.Bool.{false≢true}
use Rattle.std.specs.List.{list_any}
use Rattle.elf_image.proofs.Search.{position_range, marked_last, Ascend}
use Rattle.elf_image.proofs.Ascending.{segments_apart, functions_apart}

test_zero : (k : ℕ) → k ≡ 0 → nat_eq k 0 ≡ true
test_zero k h = grind (arith, nat_tests)

test_some : (k : ℕ) → (k ≡ 0 → ⊥) → nat_eq k 0 ≡ false
test_some k h = grind (arith, nat_tests)

test_lt : (x y : ℕ) → x < y → nat_lt x y ≡ true
test_lt x y h = grind (arith, nat_tests)

test_ge : (x y : ℕ) → y ≤ x → nat_lt x y ≡ false
test_ge x y h = grind (arith, nat_tests)

abbrev pub no_segment : Segment
no_segment = record { start = 0; bytes = []; size = 0; write = false; exec = false }

pub segment_none : (xs : List Segment) (a k : ℕ) → RiseFrom 0 xs → k ≡ prefix_len (λ s. nat_le s.start a) xs → k ≡ 0 → position_from (holds a) 0 xs ≡ None
segment_none xs a k h e z =
    position_range (λ s. s.start) segment_end 0 a 0 xs (segments_apart 0 xs h) no_segment ∙ rw (← e, test_zero k z) refl

pub segment_some : (xs : List Segment) (a k : ℕ) (d : Segment) → RiseFrom 0 xs → k ≡ prefix_len (λ s. nat_le s.start a) xs → (k ≡ 0 → ⊥)
    → a < segment_end (get_or xs (k - 1) d) → position_from (holds a) 0 xs ≡ Some (k - 1)
segment_some xs a k d h e some inside =
    position_range (λ s. s.start) segment_end 0 a 0 xs (segments_apart 0 xs h) d
    ∙ rw (← e, test_some k some, test_lt a (segment_end (get_or xs (k - 1) d)) inside, zero-add) refl

pub segment_past : (xs : List Segment) (a k : ℕ) (d : Segment) → RiseFrom 0 xs → k ≡ prefix_len (λ s. nat_le s.start a) xs → (k ≡ 0 → ⊥)
    → segment_end (get_or xs (k - 1) d) ≤ a → position_from (holds a) 0 xs ≡ None
segment_past xs a k d h e some past =
    position_range (λ s. s.start) segment_end 0 a 0 xs (segments_apart 0 xs h) d
    ∙ rw (← e, test_some k some, test_ge a (segment_end (get_or xs (k - 1) d)) past) refl

pub ruleset segment_numbers = (segment_none, segment_some, segment_past)

-- the one at that number
abbrev pub Located : (Segment → Bool) → ℕ → List Segment → Option ℕ → Option Segment → Type 0
Located p n xs None found = found ≡ None
Located p n xs (Some i) found = (n ≤ i) × (i < n + length xs) × ((d : Segment) → found ≡ Some (get_or xs (i - n) d))

located_more : (p : Segment → Bool) (n : ℕ) (x : Segment) (xs : List Segment) (o : Option ℕ) (found : Option Segment) → Located p (n + 1) xs o found → Located p n (x ∷ xs) o found
located_more p n x xs None found h = h
located_more p n x xs (Some i) found h =
    let e : i - n ≡ suc (i - (n + 1)) = omega (arith, h.0) in
    (omega (arith, h.0), (omega (arith, h.1)), λ d. rw e (h.2 d))

located : (p : Segment → Bool) (n : ℕ) (xs : List Segment) → Located p n xs (position_from p n xs) (find p xs)
located p n [] = refl
located p n (x ∷ xs) = by_test (p x) (located p (n + 1) xs)
  where
    by_test : (b : Bool) → Located p (n + 1) xs (position_from p (n + 1) xs) (find p xs) → Located p n (x ∷ xs) (cond b (Some n) (position_from p (n + 1) xs)) (cond b (Some x) (find p xs))
    by_test true h = let z : n - n ≡ 0 = omega arith in (omega arith, omega arith, λ d. rw z refl)
    by_test false h = located_more p n x xs (position_from p (n + 1) xs) (find p xs) h

located_at : (p : Segment → Bool) (xs : List Segment) (o : Option ℕ) → o ≡ position_from p 0 xs → Located p 0 xs o (find p xs)
located_at p xs o e = rw e (located p 0 xs)

pub segment_nowhere : (xs : List Segment) (a : ℕ) (o : Option ℕ) → o ≡ position_from (holds a) 0 xs → o ≡ None → segment_at xs a ≡ None
segment_nowhere xs a None e n = located_at (holds a) xs None e
segment_nowhere xs a (Some i) e n = absurd cc

pub segment_there : (xs : List Segment) (a i : ℕ) (d : Segment) → Some i ≡ position_from (holds a) 0 xs → segment_at xs a ≡ Some (get_or xs i d)
segment_there xs a i d e = let z : i - 0 ≡ i = omega arith in rw z at ((located_at (holds a) xs (Some i) e).2 d)

pub segment_inside : (xs : List Segment) (a i : ℕ) → Some i ≡ position_from (holds a) 0 xs → i < length xs
segment_inside xs a i e = omega (arith, (located_at (holds a) xs (Some i) e).1)

below_top : (low : ℕ) (xs : List Segment) → RiseFrom low xs → low ≤ 0x30000000
below_top low [] h = h
below_top low (s ∷ xs) h = omega (arith, h.0, h.1, below_top (s.start + s.size) xs h.3)

pub segment_fits : (low : ℕ) (xs : List Segment) (i : ℕ) (d : Segment) → RiseFrom low xs → i < length xs → segment_end (get_or xs i d) ≤ 0x30000000
segment_fits low [] i d h inside = absurd (omega arith)
segment_fits low (s ∷ xs) zero d h inside = below_top (s.start + s.size) xs h.3
segment_fits low (s ∷ xs) (suc i) d h inside = segment_fits (s.start + s.size) xs i d h.3 (omega arith)

pub ruleset segment_lookups = (segment_nowhere, segment_there, segment_fits)

-- ---- functions

abbrev pub no_function : Function
no_function = record { name = []; start = 0; end = 0 }

pub function_none : (xs : List Function) (a k : ℕ) → FunctionsFrom 0 xs → k ≡ prefix_len (λ f. nat_le f.start a) xs → k ≡ 0 → position_from (is_inside a) 0 xs ≡ None
function_none xs a k h e z =
    position_range (λ f. f.start) (λ f. f.end) 0 a 0 xs (functions_apart 0 xs h) no_function ∙ rw (← e, test_zero k z) refl

pub function_some : (xs : List Function) (a k : ℕ) (d : Function) → FunctionsFrom 0 xs → k ≡ prefix_len (λ f. nat_le f.start a) xs → (k ≡ 0 → ⊥)
    → a < (get_or xs (k - 1) d).end → position_from (is_inside a) 0 xs ≡ Some (k - 1)
function_some xs a k d h e some inside =
    position_range (λ f. f.start) (λ f. f.end) 0 a 0 xs (functions_apart 0 xs h) d
    ∙ rw (← e, test_some k some, test_lt a (get_or xs (k - 1) d).end inside, zero-add) refl

pub function_past : (xs : List Function) (a k : ℕ) (d : Function) → FunctionsFrom 0 xs → k ≡ prefix_len (λ f. nat_le f.start a) xs → (k ≡ 0 → ⊥)
    → (get_or xs (k - 1) d).end ≤ a → position_from (is_inside a) 0 xs ≡ None
function_past xs a k d h e some past =
    position_range (λ f. f.start) (λ f. f.end) 0 a 0 xs (functions_apart 0 xs h) d
    ∙ rw (← e, test_some k some, test_ge a (get_or xs (k - 1) d).end past) refl

pub ruleset function_lookups = (function_none, function_some, function_past)

-- ---- marks

nat_cmp_less : (x y : ℕ) → nat_cmp x y ≡ Less → x < y
nat_cmp_less x y h = grind (arith, nat_tests)

marks_from : (m : ℕ × Bool) (ms : List (ℕ × Bool)) → IsStrictlySortedBy nat_cmp (keys_of (m ∷ ms)) → Ascend (λ (x : ℕ × Bool). x.0) m.0 ms
marks_from m [] h = tt
marks_from m (n ∷ ms) h =
    let rising = nat_cmp_less m.0 n.0 (sorted_head nat_cmp m.0 (keys_of (n ∷ ms)) h).0 in
    (omega arith, marks_from n ms (sorted_tail nat_cmp m.0 (keys_of (n ∷ ms)) h))

pub marks_ascend : (ms : List (ℕ × Bool)) → IsStrictlySortedBy nat_cmp (keys_of ms) → Ascend (λ (x : ℕ × Bool). x.0) 0 ms
marks_ascend [] h = tt
marks_ascend (m ∷ ms) h = (omega arith, marks_from m ms h)

pub marked_is : (ms : List (ℕ × Bool)) (a k : ℕ) (d : ℕ × Bool) → IsStrictlySortedBy nat_cmp (keys_of ms) → k ≡ prefix_len (λ m. nat_le m.0 a) ms
    → is_code_by_marks ms a ≡ cond (nat_eq k 0) true (get_or ms (k - 1) d).1
marked_is ms a k d h e = rw e (marked_last (λ (m : ℕ × Bool). m.0) (λ (m : ℕ × Bool). m.1) 0 a true ms (marks_ascend ms h) d)

pub marked_none : (ms : List (ℕ × Bool)) (a k : ℕ) → IsStrictlySortedBy nat_cmp (keys_of ms) → k ≡ prefix_len (λ m. nat_le m.0 a) ms → k ≡ 0 → is_code_by_marks ms a ≡ true
marked_none ms a k h e z = marked_is ms a k (0, false) h e ∙ rw (test_zero k z) refl

pub marked_some : (ms : List (ℕ × Bool)) (a k : ℕ) (d : ℕ × Bool) → IsStrictlySortedBy nat_cmp (keys_of ms) → k ≡ prefix_len (λ m. nat_le m.0 a) ms → (k ≡ 0 → ⊥)
    → is_code_by_marks ms a ≡ (get_or ms (k - 1) d).1
marked_some ms a k d h e some = marked_is ms a k d h e ∙ rw (test_some k some) refl

pub ruleset mark_lookups = (marked_none, marked_some)

-- ---- a segment that a test of an address finds is the one that holds it

abbrev pub filtered : (Segment → Bool) → Option Segment → Option Segment
filtered p None = None
filtered p (Some s) = cond (p s) (Some s) None

abbrev pub Narrows : (Segment → Bool) → ℕ → Type 0
Narrows p a = (s : Segment) → length s.bytes ≤ s.size → p s ≡ true → holds a s ≡ true

holds_not_below : (a low : ℕ) (s : Segment) → a < low → low ≤ s.start → holds a s ≡ false
holds_not_below a low s below above = grind (arith, nat_tests)

past_end : (a : ℕ) (s : Segment) → holds a s ≡ true → a < segment_end s
past_end a s h = grind (arith, nat_tests)

not_test : (p : Segment → Bool) (a : ℕ) (s : Segment) (b : Bool) → Narrows p a → length s.bytes ≤ s.size → holds a s ≡ false → p s ≡ b → b ≡ false
not_test p a s true n short h e = absurd (false≢true (sym h ∙ n s short e))
not_test p a s false n short h e = refl

none_passes : (p : Segment → Bool) (a low : ℕ) (xs : List Segment) → Narrows p a → RiseFrom low xs → a < low → find p xs ≡ None
none_passes p a low [] n h below = refl
none_passes p a low (s ∷ xs) n h below =
    let not : p s ≡ false = not_test p a s (p s) n h.2 (holds_not_below a low s below h.0) refl in
    rw not (none_passes p a (s.start + s.size) xs n h.3 (omega (arith, h.0, h.1)))

one_step : (p : Segment → Bool) (s : Segment) (b : Bool) (rest : Option Segment) → rest ≡ None → cond b (Some s) rest ≡ cond b (Some s) None
one_step p s b rest h = rw h refl

one_holder : (p : Segment → Bool) (a : ℕ) (s : Segment) (xs : List Segment) (b : Bool) → holds a s ≡ b → Narrows p a → RiseFrom 0 (s ∷ xs) → find p xs ≡ filtered p (find (holds a) xs)
    → cond (p s) (Some s) (find p xs) ≡ filtered p (cond b (Some s) (find (holds a) xs))
one_holder p a s xs true e n h ih = one_step p s (p s) (find p xs) (none_passes p a (s.start + s.size) xs n h.3 (past_end a s e))
one_holder p a s xs false e n h ih =
    let not : p s ≡ false = not_test p a s (p s) n h.2 e refl in
    rw not ih

rise_lower : (low high : ℕ) (xs : List Segment) → low ≤ high → RiseFrom high xs → RiseFrom low xs
rise_lower low high [] e h = omega (arith, h)
rise_lower low high (s ∷ xs) e h = (omega (arith, h.0), h.1, h.2, h.3)

pub find_holder : (p : Segment → Bool) (a : ℕ) (xs : List Segment) → Narrows p a → RiseFrom 0 xs → find p xs ≡ filtered p (segment_at xs a)
find_holder p a [] n h = refl
find_holder p a (s ∷ xs) n h = one_holder p a s xs (holds a s) refl n h (find_holder p a xs n (rise_lower 0 (s.start + s.size) xs (omega arith) h.3))

pub both_true : (b c : Bool) → (b && c) ≡ true → (b ≡ true) × (c ≡ true)
both_true true c h = (refl, h)
both_true false c h = absurd (false≢true h)

le_from : (x y : ℕ) → nat_le x y ≡ true → x ≤ y
le_from x y h = grind (arith, nat_tests)

holds_from : (a : ℕ) (s : Segment) → s.start ≤ a → a < segment_end s → holds a s ≡ true
holds_from a s low high = grind (arith, nat_tests)

word_narrows : (a : ℕ) → Narrows (holds_word a) a
word_narrows a s short h =
    let last = both_true (not s.write && nat_le s.start a) (nat_le (a - s.start + 4) (length s.bytes)) h in
    let first = both_true (not s.write) (nat_le s.start a) last.0 in
    let low = le_from s.start a first.1 in
    let high = le_from (a - s.start + 4) (length s.bytes) last.1 in
    holds_from a s low (omega arith)

code_narrows : (a : ℕ) → Narrows (λ s. holds a s && s.exec) a
code_narrows a s short h = (both_true (holds a s) s.exec h).0

any_step : {X : Type 0} (b m : Bool) (s : X) (rest : Option X) → m ≡ is_some rest → (b || m) ≡ is_some (cond b (Some s) rest)
any_step true m s rest h = refl
any_step false m s rest h = h

pub any_is_some : {X : Type 0} (p : X → Bool) (xs : List X) → list_any p xs ≡ is_some (find p xs)
any_is_some p [] = refl
any_is_some p (s ∷ xs) = any_step (p s) (list_any p xs) s (find p xs) (any_is_some p xs)

pub word_segment : (a : ℕ) (xs : List Segment) → RiseFrom 0 xs → find (holds_word a) xs ≡ filtered (holds_word a) (segment_at xs a)
word_segment a xs h = find_holder (holds_word a) a xs (word_narrows a) h

pub code_segment : (a : ℕ) (xs : List Segment) → RiseFrom 0 xs → list_any (λ s. holds a s && s.exec) xs ≡ is_some (filtered (λ s. holds a s && s.exec) (segment_at xs a))
code_segment a xs h = any_is_some (λ s. holds a s && s.exec) xs ∙ ap is_some (find_holder (λ s. holds a s && s.exec) a xs (code_narrows a) h)

-- ---- how much memory there is

pub sum_rise : (low : ℕ) (xs : List Segment) → RiseFrom low xs → low + sum_by (λ s. s.size) xs ≤ 0x30000000
sum_rise low [] h = omega (arith, h)
sum_rise low (s ∷ xs) h =
    omega (arith, h.0, sum_by-cons (λ (x : Segment). x.size) s xs, sum_rise (s.start + s.size) xs h.3)

pub sum_fits : (xs : List Segment) → RiseFrom 0 xs → sum_by (λ s. s.size) xs ≤ 0x30000000
sum_fits xs h = omega (arith, sum_rise 0 xs h)

found_step : (a : ℕ) (x s : Segment) (rest : Option Segment) (b : Bool) → holds a x ≡ b → (rest ≡ Some s → holds a s ≡ true) → cond b (Some x) rest ≡ Some s → holds a s ≡ true
found_step a x s rest true e ih f = let same : x ≡ s = cc in ap (holds a) (sym same) ∙ e
found_step a x s rest false e ih f = ih f

pub holds_found : (a : ℕ) (xs : List Segment) (s : Segment) → segment_at xs a ≡ Some s → holds a s ≡ true
holds_found a [] s h = absurd cc
holds_found a (x ∷ xs) s h = found_step a x s (segment_at xs a) (holds a x) refl (holds_found a xs s) h

is_some_cond : (b : Bool) (s : Segment) → is_some (cond b (Some s) None) ≡ b
is_some_cond true s = refl
is_some_cond false s = refl

exec_of : (a : ℕ) (s : Segment) → holds a s ≡ true → is_some (filtered (λ t. holds a t && t.exec) (Some s)) ≡ s.exec
exec_of a s h = rw h (is_some_cond s.exec s)

pub execute_some : (a : ℕ) (xs : List Segment) (s : Segment) → RiseFrom 0 xs → segment_at xs a ≡ Some s → list_any (λ t. holds a t && t.exec) xs ≡ s.exec
execute_some a xs s h e = code_segment a xs h ∙ rw e (exec_of a s (holds_found a xs s e))

pub execute_none : (a : ℕ) (xs : List Segment) → RiseFrom 0 xs → segment_at xs a ≡ None → list_any (λ t. holds a t && t.exec) xs ≡ false
execute_none a xs h e = code_segment a xs h ∙ rw e refl

pub ruleset holders = (word_segment, execute_some, execute_none)
