-- From an address that is code up to the next mark and the end of its segment every second address is code.
use Rattle.std.proofs.Common.{◌≡◌, ℕ, zero, suc, ◌+◌, ◌-◌, ◌*◌, ◌%◌, ◌<◌, ◌≤◌, Bool, true, false, ◌&&◌, ◌||◌, ◌==◌, cond, nat_eq, nat_le, nat_lt, min, List, [], ◌∷◌, length, get_or, Option, Some, None, refl, sym, ◌∙◌, inl, inr, arith}
use Rattle.std.proofs.lemmas.Bool.Decides.{nat_tests}
use Rattle.std.specs.List.{prefix_len, find, list_any}
use Rattle.std.specs.Map.{keys_of}
use Rattle.std.specs.Ordering.{nat_cmp}
use Rattle.std.specs.List.Sorted.{IsStrictlySortedBy}
use Rattle.elf_image.specs.Segments.{Segment, holds, segment_end, RiseFrom}
use Rattle.elf_image.specs.Functions.{segment_at}
use Rattle.elf_image.specs.Marks.{is_code_by_marks, mark_or, next_mark}
use Rattle.elf_image.specs.Image.{Image, IsSound, is_code_in, run_end, code_end}
use Rattle.std.proofs.lemmas.Bool.{cases_lt, false≢true}
use Rattle.elf_image.proofs.Lookups.{marked_is, both_true, execute_some, holds_found}

le_true : (x y : ℕ) → x ≤ y → nat_le x y ≡ true
le_true x y h = grind (arith, nat_tests)

le_false : (x y : ℕ) → y < x → nat_le x y ≡ false
le_false x y h = grind (arith, nat_tests)

lt_true : (x y : ℕ) → x < y → nat_lt x y ≡ true
lt_true x y h = grind (arith, nat_tests)

lt_false : (x y : ℕ) → y ≤ x → nat_lt x y ≡ false
lt_false x y h = grind (arith, nat_tests)

-- ---- the first mark above an address stands where those at or below it end

get_more : {X : Type 0} (x : X) (xs : List X) (k : ℕ) (d : X) → get_or (x ∷ xs) (1 + k) d ≡ get_or xs k d
get_more x xs zero d = refl
get_more x xs (suc k) d = let e : 1 + suc k ≡ suc (suc k) = omega arith in rw e refl

next_found : (ms : List (ℕ × Bool)) (a end : ℕ) (d : ℕ × Bool) → prefix_len (λ m. nat_le m.0 a) ms < length ms
    → (get_or ms (prefix_len (λ m. nat_le m.0 a) ms) d).0 ≡ next_mark ms a end
next_found [] a end d h = absurd (omega arith)
next_found (m ∷ ms) a end d h =
    elim (cases_lt a m.0) [
      | inl above ↦ rw (le_false m.0 a above, lt_true a m.0 above) refl
      | inr at ↦
          let le = le_true m.0 a at in
          let more : 1 + prefix_len (λ m. nat_le m.0 a) ms < length (m ∷ ms) = rw le at h in
          let inside : prefix_len (λ m. nat_le m.0 a) ms < length ms = omega (arith, more) in
          rw (le, lt_false a m.0 at, get_more m ms (prefix_len (λ m. nat_le m.0 a) ms) d) (next_found ms a end d inside)
    ]

next_none : (ms : List (ℕ × Bool)) (a end : ℕ) → length ms ≤ prefix_len (λ m. nat_le m.0 a) ms → end ≡ next_mark ms a end
next_none [] a end h = refl
next_none (m ∷ ms) a end h =
    elim (cases_lt a m.0) [
      | inl above ↦ let none : length (m ∷ ms) ≤ 0 = rw (le_false m.0 a above) at h in absurd (omega (arith, none))
      | inr at ↦
          let past : length (m ∷ ms) ≤ 1 + prefix_len (λ m. nat_le m.0 a) ms = rw (le_true m.0 a at) at h in
          rw (lt_false a m.0 at) (next_none ms a end (omega (arith, past)))
    ]

pub next_inside : (ms : List (ℕ × Bool)) (a k end : ℕ) (d : ℕ × Bool) → k ≡ prefix_len (λ m. nat_le m.0 a) ms → k < length ms → (get_or ms k d).0 ≡ next_mark ms a end
next_inside ms a k end d e h = rw e (next_found ms a end d (omega (arith, e, h)))

pub next_past : (ms : List (ℕ × Bool)) (a k end : ℕ) → k ≡ prefix_len (λ m. nat_le m.0 a) ms → length ms ≤ k → end ≡ next_mark ms a end
next_past ms a k end e h = next_none ms a end (omega (arith, e, h))

pub ruleset next_lookups = (next_inside, next_past)

-- ---- no mark stands between an address and the next mark

same_front : (ms : List (ℕ × Bool)) (a b end : ℕ) → a ≤ b → b < end → b < next_mark ms a end
    → prefix_len (λ m. nat_le m.0 b) ms ≡ prefix_len (λ m. nat_le m.0 a) ms
same_front [] a b end le inside h = refl
same_front (m ∷ ms) a b end le inside h =
    elim (cases_lt a m.0) [
      | inl above ↦
          let before : b < m.0 = rw (lt_true a m.0 above) at h in
          rw (le_false m.0 a above, le_false m.0 b before) refl
      | inr at ↦
          let on : b < next_mark ms a end = rw (lt_false a m.0 at) at h in
          rw (le_true m.0 a at, le_true m.0 b (omega arith), same_front ms a b end le inside on) refl
    ]

marked_same : (ms : List (ℕ × Bool)) (a b end : ℕ) → IsStrictlySortedBy nat_cmp (keys_of ms) → a ≤ b → b < end → b < next_mark ms a end → is_code_by_marks ms b ≡ is_code_by_marks ms a
marked_same ms a b end sorted le inside h =
    marked_is ms b (prefix_len (λ m. nat_le m.0 b) ms) (0, false) sorted refl
    ∙ rw (same_front ms a b end le inside h) refl
    ∙ sym (marked_is ms a (prefix_len (λ m. nat_le m.0 a) ms) (0, false) sorted refl)

-- ---- and the same segment holds it

any_step : (b : Segment) (a c : ℕ) (x : Segment) (rest : Option Segment) (more : Bool) (t : Bool) → holds a x ≡ t → cond t (Some x) rest ≡ Some b → (holds c b && b.exec) ≡ true
    → (rest ≡ Some b → more ≡ true) → ((holds c x && x.exec) || more) ≡ true
any_step b a c x rest more true e f h ih = let same : x ≡ b = cc in rw (same, h) refl
any_step b a c x rest more false e f h ih = rw (ih f) (or_true (holds c x && x.exec))
  where
    or_true : (p : Bool) → (p || true) ≡ true
    or_true true = refl
    or_true false = refl

any_held : (xs : List Segment) (a c : ℕ) (s : Segment) → segment_at xs a ≡ Some s → (holds c s && s.exec) ≡ true → list_any (λ t. holds c t && t.exec) xs ≡ true
any_held [] a c s f h = absurd cc
any_held (x ∷ xs) a c s f h = any_step s a c x (segment_at xs a) (list_any (λ t. holds c t && t.exec) xs) (holds a x) refl f h (λ g. any_held xs a c s g h)

holds_on : (a b : ℕ) (s : Segment) → holds a s ≡ true → a ≤ b → b < segment_end s → holds b s ≡ true
holds_on a b s h le inside = grind (arith, nat_tests)

even_on : (a k : ℕ) → (a % 2 == 0) ≡ true → ((a + 2 * k) % 2 == 0) ≡ true
even_on a k h = grind (arith, nat_tests)

min_left : (b x y : ℕ) → b < min x y → b < x
min_left b x y h = omega (arith, h)

min_right : (b x y : ℕ) → b < min x y → b < y
min_right b x y h = omega (arith, h)

in_run : (image : Image) (a k : ℕ) (s : Segment) → IsSound image → is_code_in image a ≡ true → segment_at image.segments a ≡ Some s
    → a + 2 * k < min (segment_end s) (next_mark image.marks a (segment_end s)) → is_code_in image (a + 2 * k) ≡ true
in_run image a k s sound code at h =
    let front = both_true (a % 2 == 0 && list_any (λ t. holds a t && t.exec) image.segments) (is_code_by_marks image.marks a) code in
    let even = both_true (a % 2 == 0) (list_any (λ t. holds a t && t.exec) image.segments) front.0 in
    let inside = min_left (a + 2 * k) (segment_end s) (next_mark image.marks a (segment_end s)) h in
    let next = min_right (a + 2 * k) (segment_end s) (next_mark image.marks a (segment_end s)) h in
    let exec : s.exec ≡ true = sym (execute_some a image.segments s sound.rise at) ∙ even.1 in
    let held = holds_on a (a + 2 * k) s (holds_found a image.segments s at) (omega arith) inside in
    let any = any_held image.segments a (a + 2 * k) s at (rw (held, exec) refl) in
    let mark = marked_same image.marks a (a + 2 * k) (segment_end s) sound.marks (omega arith) inside next ∙ front.1 in
    rw (even_on a k even.0, any, mark) refl

run_step : (image : Image) (a k : ℕ) (o : Option Segment) → IsSound image → is_code_in image a ≡ true → segment_at image.segments a ≡ o
    → a + 2 * k < run_end image.marks a o → is_code_in image (a + 2 * k) ≡ true
run_step image a k None sound code at h = absurd (omega (arith, h))
run_step image a k (Some s) sound code at h = in_run image a k s sound code at h

code_step : (image : Image) (a k : ℕ) (code : Bool) → IsSound image → is_code_in image a ≡ code
    → a + 2 * k < cond code (run_end image.marks a (segment_at image.segments a)) a → is_code_in image (a + 2 * k) ≡ true
code_step image a k true sound e h = run_step image a k (segment_at image.segments a) sound e refl h
code_step image a k false sound e h = absurd (omega (arith, h))

pub code_runs : (image : Image) (a k : ℕ) → IsSound image → a + 2 * k < code_end image a → is_code_in image (a + 2 * k) ≡ true
code_runs image a k sound h = code_step image a k (is_code_in image a) sound refl h
