-- The marks that are written say of each address what the image says.
use Rattle.std.proofs.Common.{◌≡◌, ℕ, zero, suc, ◌+◌, ◌-◌, ◌%◌, ◌<◌, ◌≤◌, ◌⊎◌, ◌&&◌, ◌||◌, Bool, true, false, cond, not, nat_eq, nat_le, nat_lt, List, [], ◌∷◌, ◌++◌, map, filter, fold, refl, sym, ap, subst, ◌∙◌, append-nil, inl, inr, arith}
use Rattle.std.specs.List.{list_any, range_with_len, flat_map}
use Rattle.std.specs.Ordering.{nat_cmp}
use Rattle.std.specs.BTreeMap.{insert_entry}
use Rattle.std.proofs.lemmas.Bool.Decides.{nat_tests}
use Rattle.std.proofs.lemmas.Bool.{cases_eq}
use Rattle.std.proofs.lemmas.List.Sums.{fold-append}
use Rattle.std.proofs.lemmas.List.Concat.{flat_map-cons}
use Rattle.elf_image.specs.Segments.{Segment, holds, RiseFrom}
use Rattle.elf_image.specs.Functions.{Function}
use Rattle.elf_image.specs.Marks.{with_mark, marks_of}
use Rattle.elf_write.specs.Parts.{null_symbol}
use Rattle.elf_write.specs.declared.parts.OwnSegment.{OwnSegment}
use Rattle.gnu_rewrite_laws.proofs.Placing.{KeysFrom, keys_lower, keyed, put_all}
use Rattle.gnu_rewrite_laws.proofs.Table.{Name, name_row, function_row, mark_row, rows}

abbrev pub Mark : Type 0
Mark = ℕ × Bool

-- ---- the marks of the table are those that were given

with_row : (own : List OwnSegment) (es : List Mark) (a : ℕ) (b : Bool) → with_mark es (mark_row own (a, b)) ≡ insert_entry nat_cmp es a b
with_row own es a true = refl
with_row own es a false = refl

fold_names : (own : List OwnSegment) (es : List Mark) (names : List Name) → fold with_mark es (map (name_row own) names) ≡ es
fold_names own es [] = refl
fold_names own es (n ∷ names) = fold_names own es names

fold_functions : (own : List OwnSegment) (es : List Mark) (fs : List Function) → fold with_mark es (map (function_row own) fs) ≡ es
fold_functions own es [] = refl
fold_functions own es (f ∷ fs) = fold_functions own es fs

keyed_same : (ms : List Mark) → keyed (λ (m : Mark). m.0) (λ (m : Mark). m.1) ms ≡ ms
keyed_same [] = refl
keyed_same (m ∷ ms) = ap (λ (l : List Mark). m ∷ l) (keyed_same ms)

pub marks_are : (own : List OwnSegment) (names types : List Name) (functions : List Function) (marks : List Mark) → KeysFrom (λ (m : Mark). m.0) 0 marks
    → marks_of (null_symbol ∷ rows own names functions types marks) ≡ marks
unfolding marks_of
marks_are own names types functions marks k =
    fold-append with_mark [] (map (mark_row own) marks) (map (name_row own) names ++ map (function_row own) functions ++ map (name_row own) types)
    ∙ fold-append with_mark (fold with_mark [] (map (mark_row own) marks)) (map (name_row own) names ++ map (function_row own) functions) (map (name_row own) types)
    ∙ fold_names own (fold with_mark (fold with_mark [] (map (mark_row own) marks)) (map (name_row own) names ++ map (function_row own) functions)) types
    ∙ fold-append with_mark (fold with_mark [] (map (mark_row own) marks)) (map (name_row own) names) (map (function_row own) functions)
    ∙ fold_functions own (fold with_mark (fold with_mark [] (map (mark_row own) marks)) (map (name_row own) names)) functions
    ∙ fold_names own (fold with_mark [] (map (mark_row own) marks)) names
    ∙ put_all (λ (m : Mark). m.0) (λ (m : Mark). m.1) (mark_row own) with_mark (λ es m b. with_row own es m.0 m.1) 0 [] marks tt k
    ∙ keyed_same marks

-- ---- what marks say

abbrev pub mark_step : ℕ → Bool → Mark → Bool
mark_step a code m = cond (nat_le m.0 a) m.1 code

le_is : (m n : ℕ) → m ≤ n → nat_le m n ≡ true
le_is m n h = grind (arith, nat_tests)

le_isnt : (m n : ℕ) → n < m → nat_le m n ≡ false
le_isnt m n h = grind (arith, nat_tests)

-- marks above an address say nothing of it
above : (a : ℕ) (code : Bool) (ms : List Mark) → KeysFrom (λ (m : Mark). m.0) (a + 1) ms → fold (mark_step a) code ms ≡ code
above a code [] k = refl
above a code (m ∷ ms) k =
    let past : a < m.0 = omega (arith, k.0) in
    rw (le_isnt m.0 a past) (above a code ms (keys_lower (λ (x : Mark). x.0) (a + 1) (m.0 + 1) ms (omega (arith, past)) k.1))

-- ---- the marks of a range, for what is said of its addresses

abbrev pub turned : (ℕ → Bool) → ℕ → Bool
turned code a = cond (code a) (not (code (a - 2))) (code (a - 2))

abbrev pub begins : (ℕ → Bool) → ℕ → ℕ → Bool
begins code start a = nat_eq (a % 2) 0 && (nat_lt a (start + 2) || turned code a)

abbrev pub marks_over : (ℕ → Bool) → ℕ → ℕ → ℕ → List Mark
marks_over code start a n = map (λ x. (x, code x)) (filter (begins code start) (range_with_len a n))

keys_step : (b : Bool) (code : ℕ → Bool) (low a : ℕ) (xs : List ℕ) (rest : List Mark) → low ≤ a → KeysFrom (λ (m : Mark). m.0) (a + 1) (map (λ x. (x, code x)) xs ++ rest)
    → KeysFrom (λ (m : Mark). m.0) low (map (λ x. (x, code x)) (cond b (a ∷ xs) xs) ++ rest)
keys_step true code low a xs rest h k = (h, k)
keys_step false code low a xs rest h k = keys_lower (λ (m : Mark). m.0) low (a + 1) (map (λ x. (x, code x)) xs ++ rest) (omega (arith, h)) k

pub keys_over : (code : ℕ → Bool) (start low a n : ℕ) (rest : List Mark) → low ≤ a → KeysFrom (λ (m : Mark). m.0) (a + n) rest
    → KeysFrom (λ (m : Mark). m.0) low (marks_over code start a n ++ rest)
keys_over code start low a zero rest h k = keys_lower (λ (m : Mark). m.0) low (a + 0) rest (omega (arith, h)) k
keys_over code start low a (suc n) rest h k =
    keys_step (begins code start a) code low a (filter (begins code start) (range_with_len (a + 1) n)) rest h
    (keys_over code start (a + 1) (a + 1) n rest (omega arith) (keys_lower (λ (m : Mark). m.0) (a + 1 + n) (a + suc n) rest (omega arith) k))

-- what was said last, before an address
abbrev Said : (ℕ → Bool) → ℕ → ℕ → Bool → Type 0
Said code start x c = (e : ℕ) → e % 2 ≡ 0 → start ≤ e → e < x → x ≤ e + 2 → c ≡ code e

not_turned : (b c : Bool) → cond b (not c) c ≡ false → b ≡ c
not_turned true true h = refl
not_turned true false h = absurd cc
not_turned false true h = absurd cc
not_turned false false h = refl

record Unmarked (code : ℕ → Bool) (start x : ℕ) : Type 0 where
  past : start + 2 ≤ x
  same : code x ≡ code (x - 2)

unmarked : (code : ℕ → Bool) (start x : ℕ) → x % 2 ≡ 0 → begins code start x ≡ false → Unmarked code start x
unmarked code start x even h = by (nat_eq (x % 2) 0) (nat_lt x (start + 2)) (turned code x) refl refl refl h
  where
    by : (b c d : Bool) → nat_eq (x % 2) 0 ≡ b → nat_lt x (start + 2) ≡ c → turned code x ≡ d → (b && (c || d)) ≡ false → Unmarked code start x
    by false c d e f g h = absurd (grind (arith, nat_tests, even))
    by true true d e f g h = absurd cc
    by true false true e f g h = absurd cc
    by true false false e f g h = record { past = grind (arith, nat_tests); same = not_turned (code x) (code (x - 2)) g }

marked_even : (code : ℕ → Bool) (start x : ℕ) → begins code start x ≡ true → x % 2 ≡ 0
marked_even code start x h = by (nat_eq (x % 2) 0) (nat_lt x (start + 2) || turned code x) refl h
  where
    by : (b c : Bool) → nat_eq (x % 2) 0 ≡ b → (b && c) ≡ true → x % 2 ≡ 0
    by true c e h = grind (arith, nat_tests)
    by false c e h = absurd cc

last_even : (code : ℕ → Bool) (start x : ℕ) (c : Bool) → x % 2 ≡ 0 → begins code start x ≡ false → Said code start x c → c ≡ code x
last_even code start x c even h s =
    let u = unmarked code start x even h in
    s (x - 2) (omega (arith, even, u.past)) (omega (arith, u.past)) (omega (arith, u.past)) (omega arith) ∙ sym u.same

said_on : (code : ℕ → Bool) (start x : ℕ) (c : Bool) → begins code start x ≡ false → Said code start x c → Said code start (x + 1) c
said_on code start x c h s e even from below near =
    elim (cases_eq e x) [
      | inl here ↦ rw here (last_even code start x c (omega (arith, even, here)) h s)
      | inr other ↦ s e even from (omega (arith, below, other)) (omega (arith, near))
    ]

said_here : (code : ℕ → Bool) (start x : ℕ) → begins code start x ≡ true → Said code start (x + 1) (code x)
said_here code start x h e even from below near =
    let own = marked_even code start x h in
    let same : x ≡ e = omega (arith, own, even, below, near) in
    ap code same

-- so the marks of a range that holds an even address say of it what is said
over : (code : ℕ → Bool) (start a x n : ℕ) (c : Bool) → a % 2 ≡ 0 → x ≤ a → a < x + n → Said code start x c → fold (mark_step a) c (marks_over code start x n) ≡ code a
over code start a x zero c even from below s = absurd (omega (arith, from, below))
over code start a x (suc n) c even from below s =
    by (begins code start x) refl (cases_eq x a)
    (λ d other t. over code start a (x + 1) n d even (omega (arith, from, other)) (omega (arith, below)) t)
  where
    rest_above : x ≡ a → KeysFrom (λ (m : Mark). m.0) (a + 1) (marks_over code start (x + 1) n)
    rest_above same =
        subst (KeysFrom (λ (m : Mark). m.0) (a + 1)) (append-nil (marks_over code start (x + 1) n)) (keys_over code start (a + 1) (x + 1) n [] (omega (arith, same)) tt)

    taken : fold (mark_step a) (mark_step a c (x, code x)) (marks_over code start (x + 1) n) ≡ fold (mark_step a) (code x) (marks_over code start (x + 1) n)
    taken = ap (λ (b : Bool). fold (mark_step a) (cond b (code x) c) (marks_over code start (x + 1) n)) (le_is x a from)

    by : (b : Bool) → begins code start x ≡ b → (x ≡ a) ⊎ (x ≡ a → ⊥)
        → ((d : Bool) → (x ≡ a → ⊥) → Said code start (x + 1) d → fold (mark_step a) d (marks_over code start (x + 1) n) ≡ code a)
        → fold (mark_step a) c (map (λ y. (y, code y)) (cond b (x ∷ filter (begins code start) (range_with_len (x + 1) n)) (filter (begins code start) (range_with_len (x + 1) n)))) ≡ code a
    by true e (inl same) later = taken ∙ above a (code x) (marks_over code start (x + 1) n) (rest_above same) ∙ ap code same
    by true e (inr other) later = taken ∙ later (code x) other (said_here code start x e)
    by false e (inl same) later = above a c (marks_over code start (x + 1) n) (rest_above same) ∙ last_even code start x c (omega (arith, even, same)) e s ∙ ap code same
    by false e (inr other) later = later c other (said_on code start x c e s)

-- ---- all segments

abbrev pub marks_for : (ℕ → Bool) → Segment → List Mark
marks_for code s = cond s.exec (marks_over code s.start s.start s.size) []

abbrev pub marks_all : (ℕ → Bool) → List Segment → List Mark
marks_all code segments = flat_map (marks_for code) segments

keys_for : (code : ℕ → Bool) (b : Bool) (low start size : ℕ) (rest : List Mark) → low ≤ start → KeysFrom (λ (m : Mark). m.0) (start + size) rest
    → KeysFrom (λ (m : Mark). m.0) low (cond b (marks_over code start start size) [] ++ rest)
keys_for code true low start size rest h k = keys_over code start low start size rest h k
keys_for code false low start size rest h k = keys_lower (λ (m : Mark). m.0) low (start + size) rest (omega (arith, h)) k

pub keys_all : (code : ℕ → Bool) (low : ℕ) (segments : List Segment) → RiseFrom low segments → KeysFrom (λ (m : Mark). m.0) low (marks_all code segments)
keys_all code low [] h = tt
keys_all code low (s ∷ segments) h =
    subst (KeysFrom (λ (m : Mark). m.0) low) (sym (flat_map-cons (marks_for code) s segments))
    (keys_for code s.exec low s.start s.size (marks_all code segments) h.0 (keys_all code (s.start + s.size) segments h.3))

held_by : (a : ℕ) (s : Segment) (b : Bool) → (holds a s && b) ≡ true → (s.start ≤ a) × (a < s.start + s.size) × (b ≡ true)
held_by a s b h = by (nat_le s.start a) (nat_lt a (s.start + s.size)) b refl refl h
  where
    by : (c d e : Bool) → nat_le s.start a ≡ c → nat_lt a (s.start + s.size) ≡ d → ((c && d) && e) ≡ true → (s.start ≤ a) × (a < s.start + s.size) × (e ≡ true)
    by true true e f g h = (grind (arith, nat_tests), grind (arith, nat_tests), h)
    by true false e f g h = absurd cc
    by false d e f g h = absurd cc

pub marks_say : (code : ℕ → Bool) (a low : ℕ) (c : Bool) (segments : List Segment) → RiseFrom low segments → a % 2 ≡ 0 → list_any (λ s. holds a s && s.exec) segments ≡ true
    → fold (mark_step a) c (marks_all code segments) ≡ code a
marks_say code a low c [] rise even h = absurd cc
marks_say code a low c (s ∷ segments) rise even h =
    ap (fold (mark_step a) c) (flat_map-cons (marks_for code) s segments) ∙ fold-append (mark_step a) c (marks_for code s) (marks_all code segments)
    ∙ by (holds a s && s.exec) refl h (λ any. marks_say code a (s.start + s.size) (fold (mark_step a) c (marks_for code s)) segments rise.3 even any)
  where
    here : (holds a s && s.exec) ≡ true → fold (mark_step a) c (marks_for code s) ≡ code a
    here e =
        let held = held_by a s s.exec e in
        ap (λ (b : Bool). fold (mark_step a) c (cond b (marks_over code s.start s.start s.size) [])) held.2
        ∙ over code s.start a s.start s.size c even held.0 held.1 (λ e even from below near. absurd (omega (arith, from, below)))

    by : (b : Bool) → (holds a s && s.exec) ≡ b → (b || list_any (λ t. holds a t && t.exec) segments) ≡ true
        → (list_any (λ t. holds a t && t.exec) segments ≡ true → fold (mark_step a) (fold (mark_step a) c (marks_for code s)) (marks_all code segments) ≡ code a)
        → fold (mark_step a) (fold (mark_step a) c (marks_for code s)) (marks_all code segments) ≡ code a
    by true e any later =
        let held = held_by a s s.exec e in
        above a (fold (mark_step a) c (marks_for code s)) (marks_all code segments)
        (keys_lower (λ (m : Mark). m.0) (a + 1) (s.start + s.size) (marks_all code segments) (omega (arith, held.1)) (keys_all code (s.start + s.size) segments rise.3))
        ∙ here e
    by false e any later = later any
