-- Words and names in the segment that holds their address.
use Rattle.std.proofs.Common.{◌≡◌, ℕ, zero, suc, ◌+◌, ◌-◌, ◌*◌, ◌<◌, ◌≤◌, min, Bool, true, false, ◌&&◌, ◌||◌, cond, nat_le, nat_lt, List, [], ◌∷◌, length, drop, get_or, Option, Some, None, is_some, refl, sym, ◌∙◌, ap, inl, inr, lit<, lit≤, arith}
use Rattle.std.proofs.lemmas.Bool.Decides.{nat_tests}
use Rattle.std.proofs.lemmas.Bool.{cases_lt}
use Rattle.std.specs.List.{find, list_any, prefix_len}
use Rattle.byteorder.specs.Endian.{little_number}
use Rattle.elf_image.specs.Segments.{Segment, holds, segment_end, RiseFrom}
use Rattle.elf_image.specs.Functions.{segment_at}
use Rattle.elf_image.specs.Image.{Image, IsSound}
use Rattle.elf_image.proofs.Lookups.{any_is_some, find_holder, filtered, both_true, Narrows, segment_none, segment_some, segment_past, segment_nowhere, segment_there}
use Rattle.eh_types.specs.Words.{has_bytes_at, room, number_in, word, is_word, is_written, any_writable, words_from, name_in, name_from_segment, name_at}

le_from : (x y : ℕ) → nat_le x y ≡ true → x ≤ y
le_from x y h = grind (arith, nat_tests)

le_true : (x y : ℕ) → x ≤ y → nat_le x y ≡ true
le_true x y h = grind (arith, nat_tests)

le_false : (x y : ℕ) → y < x → nat_le x y ≡ false
le_false x y h = grind (arith, nat_tests)

lt_from : (x y : ℕ) → nat_lt x y ≡ true → x < y
lt_from x y h = grind (arith, nat_tests)

lt_true : (x y : ℕ) → x < y → nat_lt x y ≡ true
lt_true x y h = grind (arith, nat_tests)

-- ---- no segment reaches 2^32

below_top : (low : ℕ) (xs : List Segment) → RiseFrom low xs → low ≤ 0x30000000
below_top low [] h = h
below_top low (s ∷ xs) h = omega (arith, h.0, h.1, below_top (s.start + s.size) xs h.3)

not_held : (a : ℕ) (s : Segment) → segment_end s ≤ a → holds a s ≡ false
not_held a s h = grind (arith, nat_tests)

above_all : (a low : ℕ) (xs : List Segment) → RiseFrom low xs → 0x30000000 ≤ a → segment_at xs a ≡ None
above_all a low [] h above = refl
above_all a low (s ∷ xs) h above =
    let top = below_top (s.start + s.size) xs h.3 in
    rw (not_held a s (omega arith)) (above_all a (s.start + s.size) xs h.3 above)

pub capped : (xs : List Segment) (a : ℕ) → RiseFrom 0 xs → segment_at xs (min a 4294967295) ≡ segment_at xs a
capped xs a h =
    elim (cases_lt a 4294967295) [
      | inl below ↦ let e : min a 4294967295 ≡ a = omega arith in rw e refl
      | inr at ↦
          let e : min a 4294967295 ≡ 4294967295 = omega arith in
          rw e (above_all 4294967295 0 xs h (lit≤ tt) ∙ sym (above_all a 0 xs h (omega arith)))
    ]

-- ---- the segment that holds an address, by how many begin at it or below it

pub holder_none : (xs : List Segment) (a k : ℕ) → RiseFrom 0 xs → k ≡ prefix_len (λ s. nat_le s.start a) xs → k ≡ 0 → segment_at xs a ≡ None
holder_none xs a k h e z = segment_nowhere xs a None (sym (segment_none xs a k h e z)) refl

pub holder_some : (xs : List Segment) (a k : ℕ) (d : Segment) → RiseFrom 0 xs → k ≡ prefix_len (λ s. nat_le s.start a) xs → (k ≡ 0 → ⊥) → a < segment_end (get_or xs (k - 1) d)
    → segment_at xs a ≡ Some (get_or xs (k - 1) d)
holder_some xs a k d h e some inside = segment_there xs a (k - 1) d (sym (segment_some xs a k d h e some inside))

pub holder_past : (xs : List Segment) (a k : ℕ) (d : Segment) → RiseFrom 0 xs → k ≡ prefix_len (λ s. nat_le s.start a) xs → (k ≡ 0 → ⊥) → segment_end (get_or xs (k - 1) d) ≤ a
    → segment_at xs a ≡ None
holder_past xs a k d h e some past = segment_nowhere xs a None (sym (segment_past xs a k d h e some past)) refl

pub ruleset holders = (holder_none, holder_some, holder_past)

-- ---- room

pub room_some : (n a : ℕ) (s : Segment) → 0 < n → n ≤ room a s → has_bytes_at n a s ≡ true
room_some n a s some h = by_start (nat_le s.start a) refl h
  where
    by_start : (b : Bool) → nat_le s.start a ≡ b → n ≤ cond b (s.start + length s.bytes - a) 0 → (b && nat_le (a + n) (s.start + length s.bytes)) ≡ true
    by_start true e fits = let low = le_from s.start a e in le_true (a + n) (s.start + length s.bytes) (omega arith)
    by_start false e fits = absurd (omega arith)

pub room_none : (n a : ℕ) (s : Segment) → room a s < n → has_bytes_at n a s ≡ false
room_none n a s h = by_start (nat_le s.start a) refl h
  where
    by_start : (b : Bool) → nat_le s.start a ≡ b → cond b (s.start + length s.bytes - a) 0 < n → (b && nat_le (a + n) (s.start + length s.bytes)) ≡ false
    by_start true e short = let low = le_from s.start a e in le_false (a + n) (s.start + length s.bytes) (omega arith)
    by_start false e short = refl

pub room_from : (a : ℕ) (s : Segment) → 0 < room a s → (s.start ≤ a) × (a + room a s ≡ s.start + length s.bytes)
room_from a s h = by_start (nat_le s.start a) refl h
  where
    by_start : (b : Bool) → nat_le s.start a ≡ b → 0 < cond b (s.start + length s.bytes - a) 0 → (s.start ≤ a) × (a + cond b (s.start + length s.bytes - a) 0 ≡ s.start + length s.bytes)
    by_start true e some = let low = le_from s.start a e in (low, omega arith)
    by_start false e some = absurd (omega arith)

pub ruleset rooms = (room_some, room_none, room_from)

-- ---- the segment that holds an address is the one that may have its bytes

has_narrows : (n a : ℕ) → 0 < n → Narrows (has_bytes_at n a) a
has_narrows n a some s short h =
    let both = both_true (nat_le s.start a) (nat_le (a + n) (s.start + length s.bytes)) h in
    let low = le_from s.start a both.0 in
    let high = le_from (a + n) (s.start + length s.bytes) both.1 in
    rw (both.0, lt_true a (s.start + s.size) (omega arith)) refl

number_step : (a : ℕ) (s : Segment) (b : Bool) → number_in a (cond b (Some s) None) ≡ cond b (little_number 4 (drop (a - s.start) s.bytes)) 0
number_step a s true = refl
number_step a s false = refl

named_step : (a : ℕ) (s : Segment) (b : Bool) → has_bytes_at 1 a s ≡ b → name_from_segment a (cond b (Some s) None) ≡ name_in a s
unfolding name_in
named_step a s true e = refl
named_step a s false e = rw e refl

pub word_there : (xs : List Segment) (a : ℕ) (s : Segment) → RiseFrom 0 xs → segment_at xs a ≡ Some s → word xs a ≡ cond (has_bytes_at 4 a s) (little_number 4 (drop (a - s.start) s.bytes)) 0
unfolding word
word_there xs a s h e = ap (number_in a) (find_holder (has_bytes_at 4 a) a xs (has_narrows 4 a (lit< tt)) h ∙ ap (filtered (has_bytes_at 4 a)) e) ∙ number_step a s (has_bytes_at 4 a s)

pub word_nowhere : (xs : List Segment) (a : ℕ) → RiseFrom 0 xs → segment_at xs a ≡ None → word xs a ≡ 0
unfolding word
word_nowhere xs a h e = ap (number_in a) (find_holder (has_bytes_at 4 a) a xs (has_narrows 4 a (lit< tt)) h ∙ ap (filtered (has_bytes_at 4 a)) e)

pub ruleset word_lookups = (word_there, word_nowhere)

pub name_there : (image : Image) (a : ℕ) (s : Segment) → IsSound image → segment_at image.segments a ≡ Some s → name_at image.segments a ≡ name_in a s
unfolding name_at
name_there image a s h e =
    ap (name_from_segment a) (find_holder (has_bytes_at 1 a) a image.segments (has_narrows 1 a (lit< tt)) h.rise ∙ ap (filtered (has_bytes_at 1 a)) e) ∙ named_step a s (has_bytes_at 1 a s) refl

pub name_nowhere : (image : Image) (a : ℕ) → IsSound image → segment_at image.segments a ≡ None → name_at image.segments a ≡ None
unfolding name_at
name_nowhere image a h e = ap (name_from_segment a) (find_holder (has_bytes_at 1 a) a image.segments (has_narrows 1 a (lit< tt)) h.rise ∙ ap (filtered (has_bytes_at 1 a)) e)

pub ruleset name_lookups = (name_there, name_nowhere)

-- ---- several words

holds_within : (a b : ℕ) (s : Segment) → s.start ≤ a → a ≤ b → b < segment_end s → holds b s ≡ true
holds_within a b s low mid high = grind (arith, nat_tests)

-- what holds of a segment that is found
abbrev pub Fits : ℕ → Segment → Type 0
Fits low s = (low ≤ s.start) × (length s.bytes ≤ s.size) × (segment_end s ≤ 0x30000000)

found_fits : (a low : ℕ) (xs : List Segment) (s : Segment) → RiseFrom low xs → segment_at xs a ≡ Some s → Fits low s
found_fits a low [] s h e = absurd cc
found_fits a low (x ∷ xs) s h e = by_test (holds a x) e (found_fits a (x.start + x.size) xs s h.3)
  where
    by_test : (b : Bool) → cond b (Some x) (find (holds a) xs) ≡ Some s → (segment_at xs a ≡ Some s → Fits (x.start + x.size) s) → Fits low s
    by_test true f more = let same : x ≡ s = cc in rw (← same) (h.0, h.2, below_top (x.start + x.size) xs h.3)
    by_test false f more = let rest = more f in (omega (arith, h.0, rest.0), rest.1, rest.2)

same_holder : (a b low : ℕ) (s : Segment) (xs : List Segment) → RiseFrom low xs → a ≤ b → holds b s ≡ true → segment_at xs a ≡ Some s → segment_at xs b ≡ Some s
same_holder a b low s [] h le in_s e = absurd cc
same_holder a b low s (x ∷ xs) h le in_s e = by_test (holds a x) e (same_holder a b (x.start + x.size) s xs h.3 le in_s)
  where
    by_test : (t : Bool) → cond t (Some x) (find (holds a) xs) ≡ Some s → (segment_at xs a ≡ Some s → segment_at xs b ≡ Some s)
        → cond (holds b x) (Some x) (find (holds b) xs) ≡ Some s
    by_test true f more = let same : x ≡ s = cc in rw (same, in_s) refl
    by_test false f more =
        let fits = found_fits a (x.start + x.size) xs s h.3 f in
        let above = le_from s.start b (both_true (nat_le s.start b) (nat_lt b (s.start + s.size)) in_s).0 in
        rw (not_held b x (omega (arith, fits.0, above))) (more f)

room_is : (a : ℕ) (s : Segment) → s.start ≤ a → room a s ≡ s.start + length s.bytes - a
room_is a s low = rw (le_true s.start a low) refl

any_found : (p : Segment → Bool) (a : ℕ) (xs : List Segment) (o : Option Segment) → Narrows p a → RiseFrom 0 xs → segment_at xs a ≡ o → list_any p xs ≡ is_some (filtered p o)
any_found p a xs o n h e = any_is_some p xs ∙ ap is_some (find_holder p a xs n h ∙ ap (filtered p) e)

is_some_step : (s : Segment) (b : Bool) → is_some (cond b (Some s) None) ≡ b
is_some_step s true = refl
is_some_step s false = refl

word_is : (image : Image) (a : ℕ) (s : Segment) → IsSound image → segment_at image.segments a ≡ Some s → is_word image.segments a ≡ has_bytes_at 4 a s
word_is image a s h e = any_found (has_bytes_at 4 a) a image.segments (Some s) (has_narrows 4 a (lit< tt)) h.rise e ∙ is_some_step s (has_bytes_at 4 a s)

written_narrows : (a : ℕ) → Narrows (λ s. has_bytes_at 4 a s && s.write) a
written_narrows a s short h = has_narrows 4 a (lit< tt) s short (both_true (has_bytes_at 4 a s) s.write h).0

written_is : (image : Image) (a : ℕ) (s : Segment) → IsSound image → segment_at image.segments a ≡ Some s → is_written image.segments a ≡ (has_bytes_at 4 a s && s.write)
written_is image a s h e = any_found (λ s. has_bytes_at 4 a s && s.write) a image.segments (Some s) (written_narrows a) h.rise e ∙ is_some_step s (has_bytes_at 4 a s && s.write)

joined_twice : (b c : Bool) (o : Option Bool) → any_writable b (any_writable c o) ≡ any_writable (b || c) o
joined_twice b c None = refl
joined_twice true c (Some x) = refl
joined_twice false c (Some x) = refl

joined_again : (b : Bool) (o : Option Bool) → any_writable b (any_writable b o) ≡ any_writable b o
joined_again b None = refl
joined_again true (Some x) = refl
joined_again false (Some x) = refl

first_word : (image : Image) (a left : ℕ) (s : Segment) → IsSound image → segment_at image.segments a ≡ Some s → 4 ≤ room a s
    → words_from image.segments a (suc left) ≡ any_writable s.write (words_from image.segments (a + 4) left)
unfolding words_from
first_word image a left s h e fits =
    let there = room_some 4 a s (lit< tt) fits in
    rw (word_is image a s h e, written_is image a s h e, there) refl

-- the words of one segment at once
words_run : (image : Image) (a more left : ℕ) (s : Segment) → IsSound image → segment_at image.segments a ≡ Some s → 4 * (1 + more) ≤ room a s → 1 + more ≤ left
    → words_from image.segments a left ≡ any_writable s.write (words_from image.segments (a + 4 * (1 + more)) (left - (1 + more)))
words_run image a more zero s h e fits enough = absurd (omega arith)
words_run image a zero (suc left) s h e fits enough =
    first_word image a left s h e (omega (arith, fits)) ∙ (let l : suc left - (1 + 0) ≡ left = omega arith in rw l refl)
words_run image a (suc more) (suc left) s h e fits enough =
    let here = room_from a s (omega (arith, fits)) in
    let seg = found_fits a 0 image.segments s h.rise e in
    let next : segment_at image.segments (a + 4) ≡ Some s =
    same_holder a (a + 4) 0 s image.segments h.rise (omega arith) (holds_within a (a + 4) s here.0 (omega arith) (omega (arith, fits, here.1, seg.1))) e in
    let room_next : 4 * (1 + more) ≤ room (a + 4) s = rw (room_is (a + 4) s (omega (arith, here.0))) (omega (arith, fits, here.1)) in
    let ih = words_run image (a + 4) more left s h next room_next (omega arith) in
    let l : left - (1 + more) ≡ suc left - (1 + suc more) = omega arith in
    let p : a + 4 + 4 * (1 + more) ≡ a + 4 * (1 + suc more) = omega arith in
    first_word image a left s h e (omega (arith, fits)) ∙ ap (any_writable s.write) ih ∙ joined_again s.write _ ∙ rw (l, p) refl

-- the start, and what comes next
pub words_some : (image : Image) (a at left here count : ℕ) (w : Bool) (s : Segment) → IsSound image → segment_at image.segments at ≡ Some s → 4 * here ≤ room at s → 0 < here → here ≤ left
    → words_from image.segments a count ≡ any_writable w (words_from image.segments at left)
    → words_from image.segments a count ≡ any_writable (w || s.write) (words_from image.segments (at + 4 * here) (left - here))
words_some image a at left zero count w s h e fits some enough inv = absurd (omega arith)
words_some image a at left (suc more) count w s h e fits some enough inv =
    let one : suc more ≡ 1 + more = omega arith in
    inv ∙ ap (any_writable w) (words_run image at more left s h e (omega (arith, fits)) (omega (arith, enough))) ∙ joined_twice w s.write _ ∙ rw one refl

pub words_short : (image : Image) (at left : ℕ) (s : Segment) → IsSound image → segment_at image.segments at ≡ Some s → room at s < 4 → 0 < left → words_from image.segments at left ≡ None
unfolding words_from
words_short image at zero s h e short some = absurd (omega arith)
words_short image at (suc left) s h e short some = rw (word_is image at s h e, room_none 4 at s short) refl

pub words_nowhere : (image : Image) (at left : ℕ) → IsSound image → segment_at image.segments at ≡ None → 0 < left → words_from image.segments at left ≡ None
unfolding words_from
words_nowhere image at zero h e some = absurd (omega arith)
words_nowhere image at (suc left) h e some =
    rw (any_found (has_bytes_at 4 at) at image.segments None (has_narrows 4 at (lit< tt)) h.rise e) refl

-- a segment's bytes end below 0x30000000
pub words_end : (image : Image) (at here : ℕ) (s : Segment) → IsSound image → segment_at image.segments at ≡ Some s → 4 * here ≤ room at s → 0 < here → at + 4 * here ≤ 0x30000000
words_end image at here s h e fits some =
    let there = room_from at s (omega (arith, fits, some)) in
    let seg = found_fits at 0 image.segments s h.rise e in
    omega (arith, there.1, fits, seg.1, seg.2)

pub ruleset words_steps = (words_some, words_short, words_nowhere, words_end)

-- no word is left
pub last_word : (image : Image) (a at count left : ℕ) (w : Bool) → left ≡ 0 → words_from image.segments a count ≡ any_writable w (words_from image.segments at left) → Some w ≡ words_from image.segments a count
unfolding words_from
last_word image a at count left w none h = sym (h ∙ rw none (or_none w))
  where
    or_none : (b : Bool) → Some (b || false) ≡ Some b
    or_none true = refl
    or_none false = refl
