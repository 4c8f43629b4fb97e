-- The index of the rewritten image is read as its rows.
use Rattle.std.proofs.Common.{◌≡◌, ℕ, zero, suc, ◌+◌, ◌-◌, ◌*◌, ◌/◌, ◌%◌, ◌^◌, ◌<◌, ◌≤◌, ◌&&◌, ◌||◌, inl, inr, Bool, true, false, cond, not, nat_eq, nat_le, nat_lt, List, [], ◌∷◌, ◌++◌, length, take, drop, map, All, Option, Some, None, refl, sym, ap, subst, ◌∙◌, arith, length-append}
use Rattle.std.specs.Prelude.{find, slice_get}
use Rattle.std.specs.List.{list_any, range_with_len}
use Rattle.std.proofs.lemmas.Bool.Decides.{nat_tests}
use Rattle.std.proofs.lemmas.Option.{slice_get_within}
use Rattle.std.proofs.lemmas.List.Folds.{find-append, list_any-append}
use Rattle.std.proofs.lemmas.List.Elements.{All-cons, All-nil}
use Rattle.std.proofs.Math.Seq.{drop-append_seam}
use Rattle.elf_image.specs.Segments.{Segment, segment_end, RiseFrom}
use Rattle.elf_image.specs.Image.{Image, IsSound}
use Rattle.elf_image.specs.declared.limits.TheConstants.{ADDRESS_LIMIT}
use Rattle.elf_image.proofs.Sound.{sound_law}
use Rattle.eh_codes.specs.declared.row.Entry.{Entry}
use Rattle.eh_codes.specs.declared.row.EntryBody.{EntryBody}
use Rattle.eh_codes.specs.declared.row.EntryBody.TheVariants.{CantUnwind, Inline, Table}
use Rattle.eh_codes.specs.declared.row.TheConstants.{ROW_SIZE, PREL31_LIMIT}
use Rattle.eh_codes.specs.Rows.{rows_bytes}
use Rattle.eh_codes.specs.Laws.{IsLow, IsLowBody, IsTold, HasRows}
use Rattle.eh_codes.proofs.RowBytes.{read_number, law_of_saying, length-rows}
use Rattle.eh_index.specs.declared.fault.IndexFault.TheVariants.{Length}
use Rattle.eh_index.specs.Rows.{first_word, entry_at, entry_count, entries_of}
use Rattle.eh_index.specs.Places.{is_code_bound, holds_byte, is_table_place}
use Rattle.eh_index.specs.Refusal.{is_outside, is_unsorted, entry_refusal, first_of, index_refusal}
use Rattle.eh_index.specs.Laws.{IsRow}
use Rattle.eh_index.proofs.Search.{none_refused}
use Rattle.eh_index.proofs.Written.{rows_are_read}
use Rattle.elf_write.specs.Parts.{own_segment, holds_range, range_in, index_of_parts, segments_of_parts, image_of_parts}
use Rattle.gnu_index.specs.Lists.{Lists}
use Rattle.gnu_rewrite.specs.Segments.{greatest_end, tables_start, rows_start, new_bytes, read_only, index_at}
use Rattle.gnu_rewrite.specs.Parts.{parts_with, new_tables, new_parts}
use Rattle.gnu_rewrite_laws.specs.Laws.{IndexIsRead}
use Rattle.gnu_rewrite_laws.proofs.Standing.{EndBy, ends_by}
use Rattle.gnu_rewrite_laws.proofs.Parts.{new_segments, multiple_above, read_segments, has}
use Rattle.gnu_rewrite_laws.proofs.Good.{Limits, limits_of, tables_aligned, placing, the_new_one, parts_index}
use Rattle.gnu_rewrite_laws.proofs.Rows.{small_index, Fresh, BodyOk, RowOk, RowsOk, InOrder, all_made}

le_is : (a b : ℕ) → a ≤ b → nat_le a b ≡ true
le_is a b h = grind (arith, nat_tests)

le_isnt : (a b : ℕ) → b < a → nat_le a b ≡ false
le_isnt a b h = grind (arith, nat_tests)

lt_is : (a b : ℕ) → a < b → nat_lt a b ≡ true
lt_is a b h = grind (arith, nat_tests)

lt_isnt : (a b : ℕ) → b ≤ a → nat_lt a b ≡ false
lt_isnt a b h = grind (arith, nat_tests)

eq_is : (a b : ℕ) → a ≡ b → nat_eq a b ≡ true
eq_is a b h = grind (arith, nat_tests)

-- ---- where the index stands

third_false : (a b d : Bool) → (((a && b) && false) && d) ≡ false
third_false true true d = refl
third_false true false d = refl
third_false false b d = refl

-- no segment below holds it
none_below : (high start size low : ℕ) (segments : List Segment) → RiseFrom low segments → EndBy high segments → high ≤ start → 0 < size → find (holds_range start size) segments ≡ None
none_below high start size low [] r e h some = refl
none_below high start size low (s ∷ segments) r e h some =
    let past : nat_le (start + size) (s.start + length s.bytes) ≡ false = le_isnt (start + size) (s.start + length s.bytes) (omega (arith, r.2, e.0, h, some)) in
    ap (λ (b : Bool). cond (((not s.write && nat_le s.start start) && b) && nat_eq (start % 4) 0) (Some s) (find (holds_range start size) segments)) past
    ∙ ap (λ (b : Bool). cond b (Some s) (find (holds_range start size) segments)) (third_false (not s.write) (nat_le s.start start) (nat_eq (start % 4) 0))
    ∙ none_below high start size (s.start + s.size) segments r.3 e.1 h some

holds_there : (start size : ℕ) (s : Segment) → s.write ≡ false → nat_le s.start start ≡ true → nat_le (start + size) (s.start + length s.bytes) ≡ true → nat_eq (start % 4) 0 ≡ true
    → find (holds_range start size) (s ∷ []) ≡ Some s
holds_there start size s w l h a = simp (w, l, h, a)

take_all : (xs : List ℕ) → take (length xs) xs ≡ xs
take_all [] = refl
take_all (x ∷ xs) = ap (λ l. x ∷ l) (take_all xs)

-- the rows are what stands behind the tables
rows_there : (front rows : List ℕ) (n size : ℕ) → n ≡ length front → size ≡ length rows → take size (drop n (front ++ rows)) ≡ rows
rows_there front rows n size e f =
    ap (λ (m : ℕ). take size (drop m (front ++ rows))) e ∙ ap (take size) (drop-append_seam front rows) ∙ ap (λ (m : ℕ). take m rows) f ∙ take_all rows

-- the index of an image is that of rows
pub record IndexAt (made : Image) (rows : List Entry) : Type 0 where
  pub aligned : made.index_start % 4 ≡ 0
  pub low : made.index_start + ROW_SIZE * length rows < 2 ^ 30
  pub bytes : made.index_bytes ≡ rows_bytes made.index_start rows

-- a pair of an address and bytes
abbrev Pair : ℕ × List ℕ → List Entry → Type 0
Pair i rows = (i.0 % 4 ≡ 0) × (i.0 + ROW_SIZE * length rows < 2 ^ 30) × (i.1 ≡ rows_bytes i.0 rows)

no_rows : (rows : List Entry) → nat_eq (length rows) 0 ≡ true → rows ≡ []
no_rows [] e = refl
no_rows (r ∷ rows) e = absurd (grind (arith, nat_tests))

some_rows : (n : ℕ) → nat_eq n 0 ≡ false → 0 < n
some_rows n e = grind (arith, nat_tests)

some_size : (n : ℕ) → 0 < n → not (nat_eq (ROW_SIZE * n) 0) ≡ true
some_size n h = let e : nat_eq (ROW_SIZE * n) 0 ≡ false = grind (arith, nat_tests) in rw e refl

abbrev pair_at : (i : ℕ × ℕ) (segments : List Segment) → ℕ × List ℕ
pair_at i segments = cond (not (nat_eq i.1 0)) (i.0, range_in i.0 i.1 (find (holds_range i.0 i.1) segments)) (0, [])

index_pair : (image : Image) (t : Lists) → IsSound image → Limits (parts_with image t) → length t.bytes % 4 ≡ 0
    → Pair (pair_at (index_at (rows_start image t) t.rows) (image.segments ++ new_segments image t)) t.rows
index_pair image t sound limits whole = by (nat_eq (length t.rows) 0) refl
  where
    by : (b : Bool) → nat_eq (length t.rows) 0 ≡ b → Pair (pair_at (cond b (0, 0) (rows_start image t, ROW_SIZE * length t.rows)) (image.segments ++ new_segments image t)) t.rows
    by true e =
        let none = no_rows t.rows e in
        (refl, rw none (omega arith), rw none refl)
    by false e =
        let some = some_rows (length t.rows) e in
        let p = placing image t limits whole some in
        let last = own_segment (read_only (tables_start image) (new_bytes image t)) in
        let long = length-append t.bytes (rows_bytes (rows_start image t) t.rows) in
        let rows = length-rows (rows_start image t) t.rows in
        let ends = ends_by 0 (tables_start image) image.segments (multiple_above (greatest_end image.segments)) in
        let found : find (holds_range (rows_start image t) (ROW_SIZE * length t.rows)) (image.segments ++ new_segments image t) ≡ Some last =
        find-append (holds_range (rows_start image t) (ROW_SIZE * length t.rows)) image.segments (new_segments image t)
        ∙ ap (λ (o : Option Segment). Rattle.std.specs.Option.option_or o (find (holds_range (rows_start image t) (ROW_SIZE * length t.rows)) (new_segments image t)))
        (none_below (tables_start image) (rows_start image t) (ROW_SIZE * length t.rows) 0 image.segments sound.rise ends.1 (omega (arith, p.place)) (omega (arith, some)))
        ∙ ap (find (holds_range (rows_start image t) (ROW_SIZE * length t.rows))) (the_new_one image t some)
        ∙ holds_there (rows_start image t) (ROW_SIZE * length t.rows) last refl (le_is (tables_start image) (rows_start image t) (omega (arith, p.place)))
        (le_is (rows_start image t + ROW_SIZE * length t.rows) (tables_start image + length (new_bytes image t)) (omega (arith, p.place, long, rows))) (eq_is (rows_start image t % 4) 0 p.aligned) in
        let pair : pair_at (rows_start image t, ROW_SIZE * length t.rows) (image.segments ++ new_segments image t) ≡ (rows_start image t, rows_bytes (rows_start image t) t.rows) =
        ap (λ (b : Bool). cond b (rows_start image t, range_in (rows_start image t) (ROW_SIZE * length t.rows) (find (holds_range (rows_start image t) (ROW_SIZE * length t.rows)) (image.segments ++ new_segments image t))) (0, []))
        (some_size (length t.rows) some)
        ∙ ap (λ (o : Option Segment). (rows_start image t, range_in (rows_start image t) (ROW_SIZE * length t.rows) o)) found
        ∙ ap (λ (l : List ℕ). (rows_start image t, l))
        (rows_there t.bytes (rows_bytes (rows_start image t) t.rows) (rows_start image t - tables_start image) (ROW_SIZE * length t.rows) (omega (arith, p.place)) (sym rows)) in
        subst (λ (i : ℕ × List ℕ). Pair i t.rows) (sym pair) (p.aligned, omega (arith, p.place, p.ends), refl)

pub index_there : (image : Image) (t : Lists) → IsSound image → Limits (parts_with image t) → length t.bytes % 4 ≡ 0 → IndexAt (image_of_parts (parts_with image t)) t.rows
unfolding image_of_parts index_of_parts
index_there image t sound limits whole =
    let parts = parts_with image t in
    let is : index_of_parts parts (segments_of_parts parts.segments) ≡ pair_at (index_at (rows_start image t) t.rows) (image.segments ++ new_segments image t) =
    ap (λ (i : ℕ × ℕ). pair_at i (segments_of_parts parts.segments)) (parts_index image t)
    ∙ ap (pair_at (index_at (rows_start image t) t.rows)) (read_segments image t sound.rise) in
    let pair = subst (λ (i : ℕ × List ℕ). Pair i t.rows) (sym is) (index_pair image t sound limits whole) in
    record { aligned = pair.0; low = pair.1; bytes = pair.2 }

-- ---- rows among the segments of the rewritten image

-- the tables' segment, among others
pub record Among (segments made : List Segment) (base n : ℕ) : Type 0 where
  pub last : Segment
  pub all : made ≡ segments ++ last ∷ []
  pub start : last.start ≡ base
  pub write : last.write ≡ false
  pub long : n ≤ length last.bytes
  pub low : base + n ≤ ADDRESS_LIMIT
  pub aligned : base % 4 ≡ 0

any_front : (p : Segment → Bool) (xs ys : List Segment) → list_any p xs ≡ true → list_any p (xs ++ ys) ≡ true
any_front p xs ys h = list_any-append p xs ys ∙ ap (λ (b : Bool). b || list_any p ys) h

any_back : (p : Segment → Bool) (xs ys : List Segment) → list_any p ys ≡ true → list_any p (xs ++ ys) ≡ true
any_back p xs ys h = list_any-append p xs ys ∙ by (list_any p xs) (list_any p ys) h
  where
    by : (b c : Bool) → c ≡ true → (b || c) ≡ true
    by true c h = refl
    by false c h = h

any_of : (p : Segment → Bool) (s : Segment) → p s ≡ true → list_any p (s ∷ []) ≡ true
any_of p s h = rw h refl

bound_there : (segments made : List Segment) (base n a : ℕ) → Among segments made base n → is_code_bound segments a ≡ true → is_code_bound made a ≡ true
bound_there segments made base n a m h =
    ap (λ (l : List Segment). is_code_bound l a) m.all ∙ any_front (λ s. s.exec && nat_le s.start a && nat_le a (segment_end s)) segments (m.last ∷ []) h

and_true : (b c : Bool) → (b && c) ≡ true → (b ≡ true) × (c ≡ true)
and_true true true h = (refl, refl)
and_true true false h = absurd cc
and_true false c h = absurd cc

both_true : (b c : Bool) → b ≡ true → c ≡ true → (b && c) ≡ true
both_true b c h k = rw (h, k) refl

fresh_is : (base n a : ℕ) → base + n ≤ ADDRESS_LIMIT → (f : Fresh base n a) → a ≡ base + f.offset
fresh_is base n a low f = f.is ∙ small (base + f.offset) (omega (arith, low, f.inside))
  where
    small : (m : ℕ) → m < 2 ^ 32 → m % 2 ^ 32 ≡ m
    small m h = omega (arith, h)

byte_there : (a : ℕ) (s : Segment) → s.write ≡ false → nat_le s.start a ≡ true → nat_lt a (s.start + length s.bytes) ≡ true → holds_byte a s ≡ true
byte_there a s w l h = simp (w, l, h)

table_there : (segments made : List Segment) (base n a : ℕ) → Among segments made base n → BodyOk segments base n (Table a) → is_table_place made (Table a) ≡ true
table_there segments made base n a m (inl there) =
    let both = and_true (nat_eq (a % 4) 0) (list_any (holds_byte a) segments) there in
    both_true (nat_eq (a % 4) 0) (list_any (holds_byte a) made) both.0 (ap (list_any (holds_byte a)) m.all ∙ any_front (holds_byte a) segments (m.last ∷ []) both.1)
table_there segments made base n a m (inr f) =
    let is = fresh_is base n a m.low f in
    both_true (nat_eq (a % 4) 0) (list_any (holds_byte a) made) (eq_is (a % 4) 0 (omega (arith, is, f.whole, m.aligned)))
    (ap (list_any (holds_byte a)) m.all
    ∙ any_back (holds_byte a) segments (m.last ∷ [])
    (any_of (holds_byte a) m.last
    (byte_there a m.last m.write (le_is m.last.start a (omega (arith, m.start, is))) (lt_is a (m.last.start + length m.last.bytes) (omega (arith, m.start, is, m.long, f.inside))))))

place_there : (segments made : List Segment) (base n : ℕ) (b : EntryBody) → Among segments made base n → BodyOk segments base n b → is_table_place made b ≡ true
place_there segments made base n CantUnwind m h = refl
place_there segments made base n (Inline word) m h = refl
place_there segments made base n (Table a) m h = table_there segments made base n a m h

-- ---- rows that can be written

segment_low : (low : ℕ) (segments : List Segment) → RiseFrom low segments → low ≤ ADDRESS_LIMIT
segment_low low [] h = h
segment_low low (s ∷ segments) h = omega (arith, h.0, segment_low (s.start + s.size) segments h.3)

any_low : (p : Segment → Bool) (a low : ℕ) (segments : List Segment) → ((s : Segment) → length s.bytes ≤ s.size → p s ≡ true → a ≤ s.start + s.size) → RiseFrom low segments → list_any p segments ≡ true
    → a ≤ ADDRESS_LIMIT
any_low p a low [] says r h = absurd cc
any_low p a low (s ∷ segments) says r h = by (p s) refl h (λ any. any_low p a (s.start + s.size) segments says r.3 any)
  where
    by : (b : Bool) → p s ≡ b → (b || list_any p segments) ≡ true → (list_any p segments ≡ true → a ≤ ADDRESS_LIMIT) → a ≤ ADDRESS_LIMIT
    by true e any later = omega (arith, says s r.2 e, segment_low (s.start + s.size) segments r.3)
    by false e any later = later any

le_was : (a b : ℕ) → nat_le a b ≡ true → a ≤ b
le_was a b h = grind (arith, nat_tests)

lt_was : (a b : ℕ) → nat_lt a b ≡ true → a < b
lt_was a b h = grind (arith, nat_tests)

bound_low : (segments : List Segment) (a : ℕ) → RiseFrom 0 segments → is_code_bound segments a ≡ true → a ≤ ADDRESS_LIMIT
bound_low segments a r h =
    any_low (λ s. s.exec && nat_le s.start a && nat_le a (segment_end s)) a 0 segments
    (λ s short e. le_was a (segment_end s) (and_true (s.exec && nat_le s.start a) (nat_le a (segment_end s)) e).1) r h

byte_low : (segments : List Segment) (a : ℕ) → RiseFrom 0 segments → list_any (holds_byte a) segments ≡ true → a ≤ ADDRESS_LIMIT
byte_low segments a r h =
    any_low (holds_byte a) a 0 segments
    (λ s short e. let in_bytes = lt_was a (s.start + length s.bytes) (and_true (not s.write && nat_le s.start a) (nat_lt a (s.start + length s.bytes)) e).1 in omega (arith, in_bytes, short)) r h

eq_was : (a b : ℕ) → nat_eq a b ≡ true → a ≡ b
eq_was a b h = grind (arith, nat_tests)

low_table : (segments : List Segment) (base n a : ℕ) → RiseFrom 0 segments → base + n ≤ ADDRESS_LIMIT → base % 4 ≡ 0 → BodyOk segments base n (Table a) → (a < 2 ^ 30) × (a % 4 ≡ 0)
low_table segments base n a r low aligned (inl there) =
    let both = and_true (nat_eq (a % 4) 0) (list_any (holds_byte a) segments) there in
    let high = byte_low segments a r both.1 in
    (omega (arith, high), eq_was (a % 4) 0 both.0)
low_table segments base n a r low aligned (inr f) =
    let is = fresh_is base n a low f in
    (omega (arith, is, low, f.inside), omega (arith, is, f.whole, aligned))

low_body : (segments : List Segment) (base n : ℕ) (b : EntryBody) → RiseFrom 0 segments → base + n ≤ ADDRESS_LIMIT → base % 4 ≡ 0 → BodyOk segments base n b → IsLowBody b × IsTold b
low_body segments base n CantUnwind r low aligned h = (tt, tt)
low_body segments base n (Inline word) r low aligned h = (h.1, h.0)
low_body segments base n (Table a) r low aligned h = low_table segments base n a r low aligned h

is_row : (segments : List Segment) (base n : ℕ) (e : Entry) → RiseFrom 0 segments → base + n ≤ ADDRESS_LIMIT → base % 4 ≡ 0 → RowOk segments base n e → IsRow e
is_row segments base n e r low aligned ok =
    let body = low_body segments base n e.body r low aligned ok.body in
    let high = bound_low segments e.start r ok.code in
    record { even = ok.even; low = record { start = omega (arith, high); body = body.0 }; body = body.1 }

are_rows : (segments : List Segment) (base n : ℕ) (es : List Entry) → RiseFrom 0 segments → base + n ≤ ADDRESS_LIMIT → base % 4 ≡ 0 → RowsOk segments base n es → All IsRow es
are_rows segments base n [] r low aligned ok = All-nil IsRow
are_rows segments base n (e ∷ es) r low aligned ok = All-cons IsRow e es (is_row segments base n e r low aligned ok.0) (are_rows segments base n es r low aligned ok.1)

are_low : (segments : List Segment) (base n : ℕ) (es : List Entry) → RiseFrom 0 segments → base + n ≤ ADDRESS_LIMIT → base % 4 ≡ 0 → RowsOk segments base n es → All IsLow es
are_low segments base n [] r low aligned ok = All-nil IsLow
are_low segments base n (e ∷ es) r low aligned ok = All-cons IsLow e es (is_row segments base n e r low aligned ok.0).low (are_low segments base n es r low aligned ok.1)

-- ---- each row

rows_at : (segments : List Segment) (base n : ℕ) (es : List Entry) (k : ℕ) (e : Entry) → RowsOk segments base n es → slice_get es k ≡ Some e → RowOk segments base n e
rows_at segments base n [] k e ok is = absurd cc
rows_at segments base n (x ∷ es) zero e ok is = let same : x ≡ e = cc in subst (RowOk segments base n) same ok.0
rows_at segments base n (x ∷ es) (suc k) e ok is = rows_at segments base n es k e ok.1 is

next_at : (low : ℕ) (es : List Entry) (k : ℕ) (d e : Entry) → InOrder low es → slice_get es k ≡ Some d → slice_get es (suc k) ≡ Some e → d.start ≤ e.start
next_at low [] k d e o f g = absurd cc
next_at low (x ∷ []) zero d e o f g = absurd cc
next_at low (x ∷ y ∷ es) zero d e o f g =
    let here : x ≡ d = cc in
    let there : y ≡ e = cc in
    subst (λ (z : Entry). d.start ≤ z.start) there (subst (λ (z : Entry). z.start ≤ y.start) here o.1.0)
next_at low (x ∷ es) (suc k) d e o f g = next_at x.start es k d e o.1 f g

got_some : (es : List Entry) (k : ℕ) → k < length es → (e : Entry) × (slice_get es k ≡ Some e)
got_some [] k h = absurd (omega (arith, h))
got_some (e ∷ es) zero h = (e, refl)
got_some (e ∷ es) (suc k) h = got_some es k (omega (arith, h))

mapped_at : (f : ℕ → Entry) (low n k : ℕ) → k < n → slice_get (map f (range_with_len low n)) k ≡ Some (f (low + k))
mapped_at f low zero k h = absurd (omega (arith, h))
mapped_at f low (suc n) zero h = let same : low ≡ low + 0 = omega arith in ap (λ (m : ℕ). Some (f m)) same
mapped_at f low (suc n) (suc k) h = let same : low + 1 + k ≡ low + suc k = omega arith in mapped_at f (low + 1) n k (omega (arith, h)) ∙ ap (λ (m : ℕ). Some (f m)) same

-- what an image reads of rows
pub record ReadAs (made : Image) (rows : List Entry) : Type 0 where
  pub entries : entries_of made ≡ rows
  pub count : entry_count made ≡ length rows
  pub whole : length made.index_bytes % ROW_SIZE ≡ 0
  pub clear : (k : ℕ) (row : Entry) → slice_get rows k ≡ Some row → first_word made k < PREL31_LIMIT
  pub entry : (k : ℕ) (row : Entry) → slice_get rows k ≡ Some row → entry_at made k ≡ row

row_count : (n : ℕ) → ROW_SIZE * n / ROW_SIZE ≡ n
row_count n = omega arith

whole_rows : (n : ℕ) → ROW_SIZE * n % ROW_SIZE ≡ 0
whole_rows n = omega arith

some_same : (d e : Entry) → ◌≡◌ {A = Option Entry} (Some d) (Some e) → d ≡ e
some_same d e h = cc

read_as : (made : Image) (rows : List Entry) → All IsRow rows → All IsLow rows → IndexAt made rows → ReadAs made rows
unfolding entries_of
read_as made rows all low at =
    let size : length made.index_bytes ≡ ROW_SIZE * length rows = ap length at.bytes ∙ length-rows made.index_start rows in
    let has : HasRows rows made.index_start made.index_bytes =
    subst (HasRows rows made.index_start) (sym at.bytes) (law_of_saying made.index_start rows low (omega (arith, at.low))) in
    let entries = rows_are_read made rows all at.aligned at.low at.bytes in
    let count : entry_count made ≡ length rows = ap (λ (n : ℕ). n / ROW_SIZE) size ∙ row_count (length rows) in
    record {
      entries = entries;
      count = count;
      whole = ap (λ (n : ℕ). n % ROW_SIZE) size ∙ whole_rows (length rows);
      clear = λ k row is.
          let says = has.each k row is in
          let first : first_word made k ≡ says.start.word = read_number made.index_bytes (ROW_SIZE * k) says.start.word says.start.there in
          subst (λ (n : ℕ). n < PREL31_LIMIT) (sym first) says.start.clear;
      entry = λ k row is.
          let inside : k < length rows = slice_get_within rows k row is in
          let zero_more : k ≡ 0 + k = omega arith in
          ap (entry_at made) zero_more
          ∙ some_same (entry_at made (0 + k)) row
          (sym (mapped_at (entry_at made) 0 (entry_count made) k (omega (arith, inside, count))) ∙ ap (λ (l : List Entry). slice_get l k) entries ∙ is);
    }

-- ---- nothing is refused

none_outside : (a b c : Bool) → a ≡ false → b ≡ true → c ≡ true → (a || not b || not c) ≡ false
none_outside a b c e f g = rw (e, f, g) refl

not_refused : (made : Image) (k : ℕ) → is_outside made k ≡ false → is_unsorted made k ≡ false → entry_refusal made k ≡ None
unfolding entry_refusal
not_refused made k a b = rw (a, b) refl

and_false : (b c : Bool) → c ≡ false → (b && c) ≡ false
and_false true c h = h
and_false false c h = refl

sorted : (made : Image) (rows : List Entry) (k : ℕ) (row : Entry) → ReadAs made rows → InOrder 0 rows → slice_get rows k ≡ Some row → is_unsorted made k ≡ false
sorted made rows zero row read order is = refl
sorted made rows (suc k) row read order is =
    let inside : suc k < length rows = slice_get_within rows (suc k) row is in
    let before = got_some rows k (omega (arith, inside)) in
    let one : suc k - 1 ≡ k = omega arith in
    let here : (entry_at made (suc k)).start ≡ row.start = ap (λ (e : Entry). e.start) (read.entry (suc k) row is) in
    let there : (entry_at made (suc k - 1)).start ≡ before.0.start = ap (λ (n : ℕ). (entry_at made n).start) one ∙ ap (λ (e : Entry). e.start) (read.entry k before.0 before.1) in
    let up = next_at 0 rows k before.0 row order before.1 is in
    and_false (nat_lt 0 (suc k)) (nat_lt (entry_at made (suc k)).start (entry_at made (suc k - 1)).start)
    (lt_isnt (entry_at made (suc k)).start (entry_at made (suc k - 1)).start (omega (arith, here, there, up)))

row_accepted : (made : Image) (rows : List Entry) (segments : List Segment) (base n k : ℕ) (row : Entry) → ReadAs made rows → InOrder 0 rows → RowsOk segments base n rows → Among segments made.segments base n
    → slice_get rows k ≡ Some row → entry_refusal made k ≡ None
row_accepted made rows segments base n k row read order ok among is =
    let one = rows_at segments base n rows k row ok is in
    let entry = read.entry k row is in
    not_refused made k
    (none_outside (nat_le PREL31_LIMIT (first_word made k)) (is_code_bound made.segments (entry_at made k).start) (is_table_place made.segments (entry_at made k).body)
    (le_isnt PREL31_LIMIT (first_word made k) (read.clear k row is))
    (ap (λ (e : Entry). is_code_bound made.segments e.start) entry ∙ bound_there segments made.segments base n row.start among one.code)
    (ap (λ (e : Entry). is_table_place made.segments e.body) entry ∙ place_there segments made.segments base n row.body among one.body))
    (sorted made rows k row read order is)

nothing_refused : (made : Image) (rows : List Entry) (segments : List Segment) (base n : ℕ) → ReadAs made rows → InOrder 0 rows → RowsOk segments base n rows
    → (0 < length rows → Among segments made.segments base n) → index_refusal made ≡ None
unfolding index_refusal
nothing_refused made rows segments base n read order ok among =
    ap (λ (b : Bool). cond b (first_of (map (entry_refusal made) (range_with_len 0 (entry_count made)))) (Some Length)) (eq_is (length made.index_bytes % ROW_SIZE) 0 read.whole)
    ∙ none_refused made (λ k inside.
    let there : k < length rows = omega (arith, inside, read.count) in
    let got = got_some rows k there in
    row_accepted made rows segments base n k got.0 read order ok (among (omega (arith, there))) got.1)

-- ---- the law

new_among : (image : Image) (t : Lists) → IsSound image → Limits (parts_with image t) → length t.bytes % 4 ≡ 0 → 0 < length t.rows
    → Among image.segments (image_of_parts (parts_with image t)).segments (tables_start image) (length t.bytes)
new_among image t sound limits whole some =
    let p = placing image t limits whole some in
    let long = length-append t.bytes (rows_bytes (rows_start image t) t.rows) in
    record {
      last = own_segment (read_only (tables_start image) (new_bytes image t));
      all = (has image t sound).segments ∙ ap (λ (l : List Segment). image.segments ++ l) (the_new_one image t some);
      start = refl;
      write = refl;
      long = omega (arith, long);
      low = omega (arith, p.ends);
      aligned = tables_aligned (greatest_end image.segments);
    }

-- where there are no rows there are no tables
empty_rows : (segments : List Segment) (base n : ℕ) (rows : List Entry) → nat_eq (length rows) 0 ≡ true → All IsRow rows × All IsLow rows
empty_rows segments base n [] e = (All-nil IsRow, All-nil IsLow)
empty_rows segments base n (r ∷ rows) e = absurd (grind (arith, nat_tests))

rows_fit : (image : Image) (t : Lists) → IsSound image → Limits (parts_with image t) → length t.bytes % 4 ≡ 0 → RowsOk image.segments (tables_start image) (length t.bytes) t.rows
    → All IsRow t.rows × All IsLow t.rows
rows_fit image t sound limits whole ok = by (nat_eq (length t.rows) 0) refl
  where
    by : (b : Bool) → nat_eq (length t.rows) 0 ≡ b → All IsRow t.rows × All IsLow t.rows
    by true e = empty_rows image.segments (tables_start image) (length t.bytes) t.rows e
    by false e =
        let p = placing image t limits whole (some_rows (length t.rows) e) in
        let low : tables_start image + length t.bytes ≤ ADDRESS_LIMIT = omega (arith, p.ends) in
        let four = tables_aligned (greatest_end image.segments) in (
          are_rows image.segments (tables_start image) (length t.bytes) t.rows sound.rise low four ok,
          are_low image.segments (tables_start image) (length t.bytes) t.rows sound.rise low four ok,
        )

pub law_of_index : IndexIsRead
law_of_index file image kept h =
    let t = new_tables image in
    let made = image_of_parts (new_parts image) in
    let sound = sound_law file image kept.read in
    let limits = limits_of (new_parts image) kept.limits in
    let rows = (all_made image (tables_start image) (small_index file image kept.bytes kept.read) h).1 in
    let fit = rows_fit image t sound limits rows.whole rows.rows in
    let read = read_as made t.rows fit.0 fit.1 (index_there image t sound limits rows.whole) in (
      nothing_refused made t.rows image.segments (tables_start image) (length t.bytes) read rows.order rows.rows (new_among image t sound limits rows.whole),
      read.entries,
    )
