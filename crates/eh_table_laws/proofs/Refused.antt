-- Which index is refused, and why: the tests of a row and what they mean.
use Rattle.std.proofs.Common.{◌≡◌, ◌≢◌, ℕ, ◌+◌, ◌-◌, ◌*◌, ◌%◌, ◌^◌, ◌<◌, ◌≤◌, ◌==◌, Bool, true, false, not, ◌&&◌, ◌||◌, cond, List, length, refl, ap, sym, subst, ◌∙◌, arith, ne_eqb, eq-eqb}
use Rattle.std.specs.Prelude.{nat_le, nat_lt, Any}
use Rattle.std.specs.List.{list_any}
use Rattle.std.proofs.lemmas.Bool.Decides.{nat_tests}
use Rattle.std.proofs.lemmas.Bool.{false≢true}
use Rattle.std.proofs.lemmas.List.Folds.{Any-from_list_any, list_any-from_Any}
use Rattle.elf_image.specs.Segments.{Segment, segment_end}
use Rattle.elf_image.specs.Image.{Image}
use Rattle.eh_word.specs.Words.{prel31_of}
use Rattle.eh_codes.specs.declared.row.EntryBody.TheVariants.{CantUnwind, Inline, Table}
use Rattle.eh_codes.specs.Rows.{body_of}
use Rattle.eh_index.specs.Rows.{first_word, second_word, entry_at}
use Rattle.eh_index.specs.Places.{is_code_bound, holds_byte, is_table_place}
use Rattle.eh_index.specs.Refusal.{is_outside, is_unsorted}
use Rattle.eh_table_laws.specs.Words.{prel31_target}
use Rattle.eh_table_laws.specs.Indexes.{first, second, start_of, HasTable, BoundsCode, HasByte, LeadsInside, IsFine}
use Rattle.eh_table_laws.proofs.Reading.{four_bytes, leads}

three : (a b c : Bool) → (a && b && c) ≡ true → (a ≡ true) × (b ≡ true) × (c ≡ true)
three true true true h = (refl, refl, refl)
three true true false h = absurd (false≢true h)
three true false c h = absurd (false≢true h)
three false b c h = absurd (false≢true h)

-- ---- places

code_from : (a : ℕ) (segments : List Segment) → is_code_bound segments a ≡ true → Any (BoundsCode a) segments
code_from a segments e =
    let h = Any-from_list_any (λ (s : Segment). s.exec && nat_le s.start a && nat_le a (segment_end s)) segments e in
    (h.0, h.1, h.2, h.3, bounds h.1 h.4)
  where
    bounds : (s : Segment) → (s.exec && nat_le s.start a && nat_le a (segment_end s)) ≡ true → BoundsCode a s
    bounds s t =
        let p = three s.exec (nat_le s.start a) (nat_le a (segment_end s)) t in
        let x : nat_le s.start a ≡ true = p.1 in
        let y : nat_le a (s.start + s.size) ≡ true = p.2 in
        record { executes = p.0; from = grind (arith, nat_tests); to = grind (arith, nat_tests) }

code_to : (a : ℕ) (segments : List Segment) → Any (BoundsCode a) segments → is_code_bound segments a ≡ true
code_to a segments h = list_any-from_Any (λ (s : Segment). s.exec && nat_le s.start a && nat_le a (segment_end s)) segments (h.0, h.1, h.2, h.3, tested h.1 h.4)
  where
    tested : (s : Segment) → BoundsCode a s → (s.exec && nat_le s.start a && nat_le a (segment_end s)) ≡ true
    tested s b =
        let e : s.exec ≡ true = b.executes in
        let x : nat_le s.start a ≡ true = grind (arith, nat_tests, b.from) in
        let y : nat_le a (s.start + s.size) ≡ true = grind (arith, nat_tests, b.to) in
        rw (e, x, y) refl

not_true : (b : Bool) → not b ≡ true → b ≡ false
not_true true h = absurd (false≢true h)
not_true false h = refl

byte_from : (a : ℕ) (segments : List Segment) → list_any (holds_byte a) segments ≡ true → Any (HasByte a) segments
byte_from a segments e =
    let h = Any-from_list_any (holds_byte a) segments e in
    (h.0, h.1, h.2, h.3, bytes h.1 h.4)
  where
    bytes : (s : Segment) → holds_byte a s ≡ true → HasByte a s
    bytes s t =
        let p = three (not s.write) (nat_le s.start a) (nat_lt a (s.start + length s.bytes)) t in
        let x : nat_le s.start a ≡ true = p.1 in
        let y : nat_lt a (s.start + length s.bytes) ≡ true = p.2 in
        record { fixed = not_true s.write p.0; from = grind (arith, nat_tests); below = grind (arith, nat_tests) }

byte_to : (a : ℕ) (segments : List Segment) → Any (HasByte a) segments → list_any (holds_byte a) segments ≡ true
byte_to a segments h = list_any-from_Any (holds_byte a) segments (h.0, h.1, h.2, h.3, tested h.1 h.4)
  where
    tested : (s : Segment) → HasByte a s → holds_byte a s ≡ true
    tested s b =
        let e : s.write ≡ false = b.fixed in
        let x : nat_le s.start a ≡ true = grind (arith, nat_tests, b.from) in
        let y : nat_lt a (s.start + length s.bytes) ≡ true = grind (arith, nat_tests, b.below) in
        rw (e, x, y) refl

-- ---- rows

first_is : (image : Image) (k : ℕ) → first_word image k ≡ first image k
first_is image k = four_bytes image.index_bytes (8 * k)

second_is : (image : Image) (k : ℕ) → second_word image k ≡ second image k
second_is image k = four_bytes image.index_bytes (8 * k + 4)

pub start_is : (image : Image) (k : ℕ) → (entry_at image k).start ≡ start_of image k
start_is image k =
    ap (λ w. prel31_of (image.index_start + 8 * k) w - prel31_of (image.index_start + 8 * k) w % 2) (first_is image k)
    ∙ ap (λ a. a - a % 2) (leads (image.index_start + 8 * k) (first image k))

either : (b : Bool) (x y u v : ℕ) → x ≡ u → y ≡ v → cond b x y ≡ cond b u v
either true x y u v e f = e
either false x y u v e f = f

led_mod : (place word : ℕ) → prel31_target (place % 4294967296) word ≡ prel31_target place word
led_mod place word = either (nat_lt (word % 2147483648) 1073741824) _ _ _ _ (omega arith) (omega arith)

table_led : (image : Image) (k : ℕ) → prel31_of ((image.index_start + 8 * k + 4) % 2 ^ 32) (second image k) ≡ prel31_target (image.index_start + 8 * k + 4) (second image k)
table_led image k = leads ((image.index_start + 8 * k + 4) % 4294967296) (second image k) ∙ led_mod (image.index_start + 8 * k + 4) (second image k)

body_is : (image : Image) (k : ℕ) → (entry_at image k).body ≡ body_of ((image.index_start + 8 * k + 4) % 2 ^ 32) (second image k)
body_is image k = ap (body_of ((image.index_start + 8 * k + 4) % 2 ^ 32)) (second_is image k)

table_is : (image : Image) (k a : ℕ) → HasTable image k a → (entry_at image k).body ≡ Table a
table_is image k a t =
    let other : (second image k == 1) ≡ false = other_than (second image k) t.some in
    let low : nat_le 2147483648 (second image k) ≡ false = below (second image k) t.clear in
    body_is image k ∙ rw (other, low) (ap Table (table_led image k ∙ sym t.leads))
  where
    other_than : (n : ℕ) → n ≢ 1 → (n == 1) ≡ false
    other_than n h = ne_eqb n 1 h

    below : (n : ℕ) → n < 2147483648 → nat_le 2147483648 n ≡ false
    below n h = grind (arith, nat_tests)

place_parts : (a : ℕ) (b : Bool) → (a % 4 == 0 && b) ≡ true → (a % 4 ≡ 0) × (b ≡ true)
place_parts a b h = go (a % 4 == 0) b refl h
  where
    go : (c d : Bool) → (a % 4 == 0) ≡ c → (c && d) ≡ true → (a % 4 ≡ 0) × (d ≡ true)
    go true true e h = (grind (arith, nat_tests), refl)
    go true false e h = absurd (false≢true h)
    go false d e h = absurd (false≢true h)

-- ---- a row that leads inside the image

outside_parts : (a b c : Bool) → (a || not b || not c) ≡ false → (a ≡ false) × (b ≡ true) × (c ≡ true)
outside_parts false true true h = (refl, refl, refl)
outside_parts true b c h = absurd (false≢true (sym h))
outside_parts false false c h = absurd (false≢true (sym h))
outside_parts false true false h = absurd (false≢true (sym h))

pub inside_from : (image : Image) (k : ℕ) → is_outside image k ≡ false → LeadsInside image k
inside_from image k e = record {
  clear = clear;
  code = subst (λ a. Any (BoundsCode a) image.segments) (start_is image k) (code_from (entry_at image k).start image.segments parts.1);
  aligned = λ a t. (placed a t).0;
  there = λ a t. byte_from a image.segments (placed a t).1;
}
  where
    parts : (nat_le 2147483648 (first_word image k) ≡ false) × (is_code_bound image.segments (entry_at image k).start ≡ true) × (is_table_place image.segments (entry_at image k).body ≡ true)
    parts = outside_parts _ _ _ e

    clear : first image k < 2147483648
    clear = subst (λ w. w < 2147483648) (first_is image k) (let t : nat_le 2147483648 (first_word image k) ≡ false = parts.0 in grind (arith, nat_tests))

    placed : (a : ℕ) → HasTable image k a → (a % 4 ≡ 0) × (list_any (holds_byte a) image.segments ≡ true)
    placed a t = place_parts a (list_any (holds_byte a) image.segments) (subst (λ b. is_table_place image.segments b ≡ true) (table_is image k a t) parts.2)

table_to : (image : Image) (k : ℕ) → LeadsInside image k → is_table_place image.segments (entry_at image k).body ≡ true
table_to image k l = subst (λ b. is_table_place image.segments b ≡ true) (sym (body_is image k)) (go (second image k == 1) (nat_le 2147483648 (second image k)) refl refl)
  where
    at : HasTable image k (prel31_target (image.index_start + 8 * k + 4) (second image k)) → is_table_place image.segments (Table (prel31_of ((image.index_start + 8 * k + 4) % 2 ^ 32) (second image k))) ≡ true
    at t = subst (λ a. is_table_place image.segments (Table a) ≡ true) (sym (table_led image k))
        (let e : (prel31_target (image.index_start + 8 * k + 4) (second image k) % 4 == 0) ≡ true = eq-eqb _ _ (l.aligned _ t) in
        rw (e, byte_to (prel31_target (image.index_start + 8 * k + 4) (second image k)) image.segments (l.there _ t)) refl)

    go : (b c : Bool) → (second image k == 1) ≡ b → nat_le 2147483648 (second image k) ≡ c
        → is_table_place image.segments (cond b CantUnwind (cond c (Inline (second image k)) (Table (prel31_of ((image.index_start + 8 * k + 4) % 2 ^ 32) (second image k))))) ≡ true
    go true c e f = refl
    go false true e f = refl
    go false false e f = at (record {
      some = λ h. absurd (false≢true (sym e ∙ eq-eqb _ _ h));
      clear = grind (arith, nat_tests);
      leads = refl;
    })

pub inside_to : (image : Image) (k : ℕ) → LeadsInside image k → is_outside image k ≡ false
inside_to image k l =
    let a : nat_le 2147483648 (first_word image k) ≡ false = clear (first_word image k) (subst (λ w. w < 2147483648) (sym (first_is image k)) l.clear) in
    let b : is_code_bound image.segments (entry_at image k).start ≡ true = code_to _ image.segments (subst (λ a. Any (BoundsCode a) image.segments) (sym (start_is image k)) l.code) in
    rw (a, b, table_to image k l) refl
  where
    clear : (w : ℕ) → w < 2147483648 → nat_le 2147483648 w ≡ false
    clear w h = grind (arith, nat_tests)

-- ---- order

below_from : (k x y : ℕ) → (nat_lt 0 k && nat_lt x y) ≡ true → (0 < k) × (x < y)
below_from k x y h = go (nat_lt 0 k) (nat_lt x y) refl refl h
  where
    go : (b c : Bool) → nat_lt 0 k ≡ b → nat_lt x y ≡ c → (b && c) ≡ true → (0 < k) × (x < y)
    go true true e f h = (grind (arith, nat_tests), grind (arith, nat_tests))
    go true false e f h = absurd (false≢true h)
    go false c e f h = absurd (false≢true h)

pub unsorted_from : (image : Image) (k : ℕ) → is_unsorted image k ≡ true → (0 < k) × (start_of image k < start_of image (k - 1))
unsorted_from image k e =
    let h = below_from k (entry_at image k).start (entry_at image (k - 1)).start e in
    (h.0, subst (λ x. x < start_of image (k - 1)) (start_is image k) (subst (λ y. (entry_at image k).start < y) (start_is image (k - 1)) h.1))

above_from : (k x y : ℕ) → (nat_lt 0 k && nat_lt x y) ≡ false → 0 < k → y ≤ x
above_from k x y h some = go (nat_lt 0 k) (nat_lt x y) refl refl h
  where
    go : (b c : Bool) → nat_lt 0 k ≡ b → nat_lt x y ≡ c → (b && c) ≡ false → y ≤ x
    go true true e f h = absurd (false≢true (sym h))
    go true false e f h = grind (arith, nat_tests)
    go false c e f h = let no : nat_lt 0 k ≡ true = grind (arith, nat_tests) in absurd (false≢true (sym e ∙ no))

pub fine_from : (image : Image) (k : ℕ) → is_outside image k ≡ false → is_unsorted image k ≡ false → IsFine image k
fine_from image k o u = record {
  inside = inside_from image k o;
  rises = λ some. subst (λ y. y ≤ start_of image k) (start_is image (k - 1)) (subst (λ x. (entry_at image (k - 1)).start ≤ x) (start_is image k) (above_from k _ _ u some));
}
