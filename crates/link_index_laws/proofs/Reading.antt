-- The index of the image is read as the rows of the sources.
use Rattle.std.proofs.Common.{◌≡◌, ℕ, zero, suc, ◌+◌, ◌-◌, ◌*◌, ◌/◌, ◌%◌, ◌^◌, ◌≤◌, ◌<◌, ◌⊎◌, inl, inr, ◌==◌, ◌&&◌, ◌||◌, not, nat_le, nat_lt, Bool, true, false, cond, List, [], ◌∷◌, ◌++◌, length, map, drop, All, Some, None, Ok, refl, sym, ap, ◌∙◌, arith, length-append, subst}
use Rattle.std.specs.Prelude.{slice_get}
use Rattle.std.specs.List.{list_any, range_with_len}
use Rattle.std.proofs.lemmas.Bool.{true≢false}
use Rattle.std.proofs.lemmas.Bool.Decides.{nat_tests}
use Rattle.std.proofs.lemmas.List.Elements.{All-push, All-get_or}
use Rattle.std.proofs.lemmas.Option.{get_or_from_slice_get, slice_get_within}
use Rattle.byteorder.specs.Endian.{little_number}
use Rattle.eh_codes.specs.declared.row.Entry.{Entry}
use Rattle.eh_codes.specs.declared.row.EntryBody.{EntryBody}
use Rattle.eh_codes.specs.declared.row.EntryBody.TheVariants as body
use Rattle.eh_codes.specs.declared.row.TheConstants.{ROW_SIZE, PREL31_LIMIT}
use Rattle.eh_codes.specs.Rows.{even, row_as_read, entry_of}
use Rattle.eh_codes.specs.Laws.{SaysRow, HasRows, IsTold}
use Rattle.eh_codes.proofs.RowBytes.{read_number, law_of_reading as law_of_words}
use Rattle.asm_relocatable.specs.declared.object.Object.{Object}
use Rattle.elf_image.specs.Segments.{Segment}
use Rattle.elf_image.specs.Image.{Image}
use Rattle.elf_write.specs.Parts.{own_segment, image_of_parts}
use Rattle.elf_write.specs.declared.parts.ImageParts.{ImageParts}
use Rattle.eh_link.specs.declared.places.TheConstants.{CODE_START}
use Rattle.eh_link.specs.Layout.{layout_of, place_objects}
use Rattle.eh_link.specs.Index.{closing}
use Rattle.eh_link.specs.IndexLaw.{object_rows, index_rows}
use Rattle.eh_link.specs.Linked.{link_result}
use Rattle.eh_link.specs.LayoutLaw.{linked_index, linked_code}
use Rattle.eh_link.proofs.Images.{image_made, law_of_image_rows, code_below}
use Rattle.eh_link.proofs.Layouts.{rising, ends_of}
use Rattle.eh_link.proofs.Sorting.{Ascending}
use Rattle.eh_link.proofs.Standing.{law_of_images, law_of_index, code_ends}
use Rattle.eh_index.specs.declared.fault.IndexFault.TheVariants.{Length, OutsideImage, Unsorted}
use Rattle.eh_index.specs.Rows.{first_word, second_word, entry_at, entry_count, entries_of}
use Rattle.eh_index.specs.Places.{is_code_bound, holds_byte, is_table_place}
use Rattle.eh_index.specs.Refusal.{is_outside, is_unsorted, entry_refusal, first_of, index_refusal}
use Rattle.eh_index.proofs.Search.{none_refused}
use Rattle.link_index_laws.specs.SourceIndex.{IsAssembled, rows_to_read, SourcesAreRead}
use Rattle.link_index_laws.proofs.Rising.{all_orderly, law_of_assembled_rows, rows_ascend, in_this_order, BodyFits, RowFits, rows_fit}
use Rattle.link_index_laws.proofs.Segments.{code_of, code_first, image_segments, index_is}

-- ---- one row

le_is : (m n : ℕ) → m ≤ n → nat_le m n ≡ true
le_is m n h = grind (arith, nat_tests)

le_isnt : (m n : ℕ) → n < m → nat_le m n ≡ false
le_isnt m n h = grind (arith, nat_tests)

lt_isnt : (m n : ℕ) → n ≤ m → nat_lt m n ≡ false
lt_isnt m n h = grind (arith, nat_tests)

is_same : (m n : ℕ) → m ≡ n → (m == n) ≡ true
is_same m n h = grind (arith, nat_tests)

-- what a row's words say
pub record RowRead (image : Image) (k : ℕ) (row : Entry) : Type 0 where
  pub clear : first_word image k < PREL31_LIMIT
  pub entry : entry_at image k ≡ row_as_read row

read_at : (image : Image) (table : ℕ) (bytes : List ℕ) (k end : ℕ) (row : Entry) → image.index_start ≡ table → image.index_bytes ≡ bytes → SaysRow row table bytes (ROW_SIZE * k)
    → BodyFits end row.body → table % 4 ≡ 0 → table + ROW_SIZE * (k + 1) ≤ 2 ^ 30 → RowRead image k row
read_at image table bytes k end row start same says fits four low =
    let first : first_word image k ≡ says.start.word = ap (λ b. little_number 4 (drop (ROW_SIZE * k) b)) same ∙ read_number bytes (ROW_SIZE * k) says.start.word says.start.there in
    let L : ℕ → Type 0 = λ n. n < PREL31_LIMIT in
    record {
      clear = subst L (sym first) says.start.clear;
      entry =
          ap (λ s. entry_of (s + ROW_SIZE * k) (first_word image k) (second_word image k)) start
          ∙ ap (λ b. entry_of (table + ROW_SIZE * k) (little_number 4 (drop (ROW_SIZE * k) b)) (little_number 4 (drop (ROW_SIZE * k + 4) b))) same
          ∙ law_of_words row table bytes (ROW_SIZE * k) says (told end row.body fits) (four_there table k four) (room_there table k low);
    }
  where
    told : (end : ℕ) (said : EntryBody) → BodyFits end said → IsTold said
    told end body.CantUnwind fits = tt
    told end (body.Inline word) fits = fits.0
    told end (body.Table address) fits = fits.0

    four_there : (table k : ℕ) → table % 4 ≡ 0 → (table + ROW_SIZE * k) % 4 ≡ 0
    four_there table k h = omega (arith, h)

    room_there : (table k : ℕ) → table + ROW_SIZE * (k + 1) ≤ 2 ^ 30 → table + ROW_SIZE * k + ROW_SIZE ≤ 2 ^ 30
    room_there table k h = omega (arith, h)

-- ---- all rows

-- every row of the sources, and the closing one, is read in its place
pub record AllRead (image : Image) (rows : List Entry) : Type 0 where
  pub each : (k : ℕ) (row : Entry) → slice_get rows k ≡ Some row → RowRead image k row
  pub count : entry_count image ≡ length rows
  pub whole : length image.index_bytes % ROW_SIZE ≡ 0

row_count : (n : ℕ) → ROW_SIZE * n / ROW_SIZE ≡ n
row_count n = omega arith

whole_rows : (n : ℕ) → ROW_SIZE * n % ROW_SIZE ≡ 0
whole_rows n = omega arith

fit_at : (end : ℕ) (rows : List Entry) (k : ℕ) (row : Entry) → All (RowFits end) rows → slice_get rows k ≡ Some row → RowFits end row
fit_at end rows k row all e =
    subst (RowFits end) (get_or_from_slice_get rows k row row e) (All-get_or (RowFits end) rows k row (slice_get_within rows k row e) all)

all_read : (image : Image) (rows : List Entry) (end table : ℕ) (bytes : List ℕ) → image.index_start ≡ table → image.index_bytes ≡ bytes → HasRows rows table bytes
    → All (RowFits end) rows → table % 4 ≡ 0 → table + length bytes ≤ 2 ^ 30 → AllRead image rows
all_read image rows end table bytes start same has fit four low = record {
  each = λ k row e. read_at image table bytes k end row start same (has.each k row e) (fit_at end rows k row fit e).body four (inside (length rows) k (slice_get_within rows k row e) room);
  count = ap (λ (b : List ℕ). length b / ROW_SIZE) same ∙ ap (λ n. n / ROW_SIZE) has.size ∙ row_count (length rows);
  whole = ap (λ (b : List ℕ). length b % ROW_SIZE) same ∙ ap (λ n. n % ROW_SIZE) has.size ∙ whole_rows (length rows);
}
  where
    inside : (n k : ℕ) → k < n → table + ROW_SIZE * n ≤ 2 ^ 30 → table + ROW_SIZE * (k + 1) ≤ 2 ^ 30
    inside n k h l = omega (arith, h, l)

    room : table + ROW_SIZE * length rows ≤ 2 ^ 30
    room = let L : ℕ → Type 0 = λ n. table + n ≤ 2 ^ 30 in subst L has.size low

-- ---- the list of entries

maps_are : (f : ℕ → Entry) (low n : ℕ) (rows : List Entry) → n ≡ length rows → ((k : ℕ) (r : Entry) → slice_get rows k ≡ Some r → f (low + k) ≡ row_as_read r)
    → map f (range_with_len low n) ≡ map row_as_read rows
maps_are f low zero [] e h = refl
maps_are f low (suc n) [] e h = absurd (omega (arith, e))
maps_are f low zero (r ∷ rows) e h = absurd (omega (arith, e))
maps_are f low (suc n) (r ∷ rows) e h =
    let here : low + 0 ≡ low = omega arith in
    let rest = maps_are f (low + 1) n rows (omega (arith, e)) (λ k x g. let next : low + 1 + k ≡ low + suc k = omega arith in ap f next ∙ h (suc k) x g) in
    ap (λ x. x ∷ map f (range_with_len (low + 1) n)) (ap f (sym here) ∙ h 0 r refl) ∙ ap (λ l. row_as_read r ∷ l) rest

zero_left : (k : ℕ) → 0 + k ≡ k
zero_left k = omega arith

pub entries_are : (image : Image) (rows : List Entry) → AllRead image rows → entries_of image ≡ map row_as_read rows
unfolding entries_of
entries_are image rows read = maps_are (entry_at image) 0 (entry_count image) rows read.count (λ k r e. ap (entry_at image) (zero_left k) ∙ (read.each k r e).entry)

-- ---- nothing is refused

got_some : {X : Type 0} (xs : List X) (k : ℕ) → k < length xs → (x : X) × (slice_get xs k ≡ Some x)
got_some [] k h = absurd (omega (arith, h))
got_some (x ∷ xs) zero h = (x, refl)
got_some (x ∷ xs) (suc k) h = got_some xs k (omega (arith, h))

asc_next : (low : ℕ) (rows : List Entry) (j : ℕ) (a b : Entry) → Ascending low rows → slice_get rows j ≡ Some a → slice_get rows (suc j) ≡ Some b → a.start ≤ b.start
asc_next low [] j a b asc e f = absurd (cc)
asc_next low (r ∷ []) zero a b asc e f = absurd (cc)
asc_next low (r ∷ s ∷ rows) zero a b asc e f =
    let first : r ≡ a = cc in
    let second : s ≡ b = cc in
    let L : Entry → Type 0 = λ x. x.start ≤ b.start in
    let M : Entry → Type 0 = λ x. r.start ≤ x.start in
    subst L first (subst M second asc.1.0)
asc_next low (r ∷ rows) (suc j) a b asc e f = asc_next r.start rows j a b asc.1 e f

pub even_rises : (a b : ℕ) → a ≤ b → even a ≤ even b
even_rises a b h = omega (arith, h)

-- a segment that holds the code
pub record HoldsCode (end : ℕ) (s : Segment) : Type 0 where
  pub start : s.start ≡ CODE_START
  pub size : s.start + s.size ≡ end
  pub bytes : s.start + length s.bytes ≡ end
  pub exec : s.exec ≡ true
  pub write : s.write ≡ false

any_first : (p : Segment → Bool) (s : Segment) (more : List Segment) → p s ≡ true → list_any p (s ∷ more) ≡ true
any_first p s more h = ap (λ b. b || list_any p more) h

bound_there : (end a : ℕ) (s : Segment) (more : List Segment) → HoldsCode end s → CODE_START ≤ a → a ≤ end → is_code_bound (s ∷ more) (even a) ≡ true
bound_there end a s more h low high =
    let from : s.start ≤ even a = even_from s.start a h.start low in
    let to : even a ≤ s.start + s.size = even_to a end (s.start + s.size) h.size high in
    any_first (λ g. g.exec && nat_le g.start (even a) && nat_le (even a) (g.start + g.size)) s more (all_three _ _ _ h.exec (le_is _ _ from) (le_is _ _ to))
  where
    even_from : (start a : ℕ) → start ≡ CODE_START → CODE_START ≤ a → start ≤ even a
    even_from start a e h = omega (arith, e, h)

    even_to : (a end b : ℕ) → b ≡ end → a ≤ end → even a ≤ b
    even_to a end b e h = omega (arith, e, h)

    all_three : (a b c : Bool) → a ≡ true → b ≡ true → c ≡ true → (a && b && c) ≡ true
    all_three a b c e f g = simp (e, f, g)

pub byte_there : (end a : ℕ) (s : Segment) → HoldsCode end s → CODE_START ≤ a → a + 4 ≤ end → holds_byte a s ≡ true
byte_there end a s h low high =
    let from : s.start ≤ a = start_le s.start a h.start low in
    let to : a < s.start + length s.bytes = below a end (s.start + length s.bytes) h.bytes high in
    all_three s.write _ _ h.write (le_is _ _ from) (lt_is _ _ to)
  where
    start_le : (start a : ℕ) → start ≡ CODE_START → CODE_START ≤ a → start ≤ a
    start_le start a e h = omega (arith, e, h)

    below : (a end b : ℕ) → b ≡ end → a + 4 ≤ end → a < b
    below a end b e h = omega (arith, e, h)

    lt_is : (m n : ℕ) → m < n → nat_lt m n ≡ true
    lt_is m n h = grind (arith, nat_tests)

    all_three : (a b c : Bool) → a ≡ false → b ≡ true → c ≡ true → (not a && b && c) ≡ true
    all_three a b c e f g = simp (e, f, g)

body_there : (end : ℕ) (said : EntryBody) (s : Segment) (more : List Segment) → HoldsCode end s → BodyFits end said → is_table_place (s ∷ more) said ≡ true
body_there end body.CantUnwind s more h fits = refl
body_there end (body.Inline word) s more h fits = refl
body_there end (body.Table a) s more h fits = both _ _ (is_same (a % 4) 0 fits.0) (any_first (holds_byte a) s more (byte_there end a s h fits.1.0 fits.1.1))
  where
    both : (a b : Bool) → a ≡ true → b ≡ true → (a && b) ≡ true
    both a b e f = simp (e, f)

none_outside : (k : ℕ) (a b c : Bool) → a ≡ false → b ≡ true → c ≡ true → ((a || not b) || not c) ≡ false
none_outside k a b c e f g = simp (e, f, g)

accepted : (image : Image) (k : ℕ) → is_outside image k ≡ false → is_unsorted image k ≡ false → entry_refusal image k ≡ None
unfolding entry_refusal
accepted image k e f = by (is_outside image k) (is_unsorted image k) e f
  where
    by : (a b : Bool) → a ≡ false → b ≡ false → cond a (Some (OutsideImage k)) (cond b (Some (Unsorted k)) None) ≡ None
    by true b e f = absurd (true≢false e)
    by false true e f = absurd (true≢false f)
    by false false e f = refl

sorted_at : (image : Image) (rows : List Entry) (low k : ℕ) (row : Entry) → AllRead image rows → Ascending low rows → slice_get rows k ≡ Some row → is_unsorted image k ≡ false
sorted_at image rows low zero row read asc e = ap (λ b. b && nat_lt (entry_at image 0).start (entry_at image (0 - 1)).start) (lt_isnt 0 0 (omega arith))
sorted_at image rows low (suc j) row read asc e =
    let inside : suc j < length rows = slice_get_within rows (suc j) row e in
    let before = got_some rows j (omega (arith, inside)) in
    let back : suc j - 1 ≡ j = omega arith in
    let up = even_rises before.0.start row.start (asc_next low rows j before.0 row asc before.1 e) in
    let here : (entry_at image (suc j)).start ≡ even row.start = ap (λ (x : Entry). x.start) (read.each (suc j) row e).entry in
    let there : (entry_at image (suc j - 1)).start ≡ even before.0.start = ap (λ n. (entry_at image n).start) back ∙ ap (λ (x : Entry). x.start) (read.each j before.0 before.1).entry in
    last_false (nat_lt 0 (suc j)) _ (lt_isnt _ _ (not_below _ _ _ _ here there up))
  where
    last_false : (a b : Bool) → b ≡ false → (a && b) ≡ false
    last_false true b e = e
    last_false false b e = refl

    not_below : (a b c d : ℕ) → a ≡ c → b ≡ d → d ≤ c → b ≤ a
    not_below a b c d e f h = omega (arith, e, f, h)

row_accepted : (image : Image) (rows : List Entry) (low end k : ℕ) (row : Entry) (s : Segment) (more : List Segment) → AllRead image rows → Ascending low rows → All (RowFits end) rows
    → image.segments ≡ s ∷ more → HoldsCode end s → slice_get rows k ≡ Some row → entry_refusal image k ≡ None
row_accepted image rows low end k row s more read asc fit segments holds e =
    let one = read.each k row e in
    let fits = fit_at end rows k row fit e in
    let code : is_code_bound image.segments (entry_at image k).start ≡ true =
    ap (λ l. is_code_bound l (entry_at image k).start) segments ∙ ap (λ (x : Entry). is_code_bound (s ∷ more) x.start) one.entry ∙ bound_there end row.start s more holds fits.from fits.to in
    let table : is_table_place image.segments (entry_at image k).body ≡ true =
    ap (λ l. is_table_place l (entry_at image k).body) segments ∙ ap (λ (x : Entry). is_table_place (s ∷ more) x.body) one.entry ∙ body_there end row.body s more holds fits.body in
    accepted image k (none_outside k _ _ _ (le_isnt PREL31_LIMIT (first_word image k) one.clear) code table) (sorted_at image rows low k row read asc e)

pub none_is_refused : (image : Image) (rows : List Entry) (low end : ℕ) (s : Segment) (more : List Segment) → AllRead image rows → Ascending low rows → All (RowFits end) rows
    → image.segments ≡ s ∷ more → HoldsCode end s → index_refusal image ≡ None
unfolding index_refusal
none_is_refused image rows low end s more read asc fit segments holds =
    ap (λ b. cond b (first_of (map (entry_refusal image) (range_with_len 0 (entry_count image)))) (Some Length)) (is_same (length image.index_bytes % ROW_SIZE) 0 read.whole)
    ∙ none_refused image (λ k inside.
    let L : ℕ → Type 0 = λ n. k < n in
    let got = got_some rows k (subst L read.count inside) in
    row_accepted image rows low end k got.0 s more read asc fit segments holds got.1)

-- ---- the law

closing_fits : (end text_end : ℕ) → CODE_START ≤ text_end → text_end ≤ end → RowFits end (closing text_end)
closing_fits end text_end low high = record { from = low; to = high; body = tt }

-- what holds of the image of objects of accepted sources
pub record ImageRead (objects : List Object) (image : Image) : Type 0 where
  pub read : AllRead image (rows_to_read objects)
  pub ascend : Ascending CODE_START (rows_to_read objects)
  pub fit : All (RowFits (layout_of objects).code_end) (rows_to_read objects)
  pub first : Segment
  pub more : List Segment
  pub segments : image.segments ≡ first ∷ more
  pub bytes : first.bytes ≡ linked_code objects
  pub holds : HoldsCode (layout_of objects).code_end first

pub image_read : (objects : List Object) (name : List ℕ) (parts : ImageParts) → All IsAssembled objects → link_result objects name ≡ Ok parts → ImageRead objects (image_of_parts parts)
image_read objects name parts all e =
    let l = layout_of objects in
    let fits = (image_made objects name parts e).fits in
    let own = all_orderly objects all in
    let r = rising objects in
    let ends = ends_of objects in
    let below = code_below objects fits in
    let index = index_is objects name parts e in
    let code = code_first objects name parts e in
    let place : parts.index.0 ≡ l.index_start = ap (λ (i : ℕ × ℕ). i.0) (law_of_images objects name parts e).1 in
    let has = law_of_image_rows objects name parts e (law_of_assembled_rows objects all) in
    let H : ℕ → Type 0 = λ n. HasRows (index_rows (place_objects objects) ++ closing l.text_end ∷ []) n (linked_index objects) in
    let I : List Entry → Type 0 = λ rows. HasRows (rows ++ closing l.text_end ∷ []) l.index_start (linked_index objects) in
    let rows = object_rows (place_objects objects) in
    let rows_fit_all = rows_fit objects own fits in
    let fit : All (RowFits l.code_end) (rows ++ closing l.text_end ∷ []) =
    All-push (RowFits l.code_end) rows (closing l.text_end) rows_fit_all (closing_fits l.code_end l.text_end r.text (omega (arith, r.rodata, r.extab, r.index, r.code))) in
    let four : l.index_start % 4 ≡ 0 = omega (arith, ends.index) in
    record {
      read =
          all_read (image_of_parts parts) (rows ++ closing l.text_end ∷ []) l.code_end l.index_start (linked_index objects) index.start index.bytes
          (subst I (in_this_order objects own fits) (subst H place has)) fit four (omega (arith, (law_of_index objects).1, below));
      ascend = rows_ascend objects own fits;
      fit = fit;
      first = own_segment (code_of objects);
      more = code.more;
      segments = image_segments parts ∙ code.segments;
      bytes = refl;
      holds = record {
        start = refl;
        size = omega (arith, r.text, r.rodata, r.extab, r.index, r.code);
        bytes = code_ends objects;
        exec = refl;
        write = refl;
      };
    }

pub law_of_reading : SourcesAreRead
law_of_reading objects name parts all e =
    let image = image_read objects name parts all e in (
      none_is_refused (image_of_parts parts) (rows_to_read objects) CODE_START (layout_of objects).code_end image.first image.more image.read image.ascend image.fit image.segments image.holds,
      entries_are (image_of_parts parts) (rows_to_read objects) image.read,
    )
