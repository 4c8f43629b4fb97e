-- The rows that are written: each begins in code, and its table stands in the image or among the new ones.
use Rattle.std.proofs.Common.{◌≡◌, ℕ, zero, suc, ◌+◌, ◌-◌, ◌*◌, ◌%◌, ◌^◌, ◌<◌, ◌≤◌, ◌⊎◌, inl, inr, Bool, true, false, cond, nat_eq, nat_le, List, [], ◌∷◌, ◌++◌, length, map, fold, All, Option, Some, None, Result, Ok, Err, refl, sym, ap, subst, arith, length-append}
use Rattle.std.specs.Prelude.{find}
use Rattle.std.specs.List.{range_with_len}
use Rattle.std.proofs.lemmas.Bool.Decides.{nat_tests}
use Rattle.elf_image.specs.Segments.{Segment, segment_of, segments_of}
use Rattle.elf_image.specs.Index.{holds_index, index_bytes_in, index_of}
use Rattle.elf_image.specs.Image.{Image, image_of, image_with, file_segments, file_indexes}
use Rattle.elf_image.specs.declared.format.ProgramHeader.{ProgramHeader}
use Rattle.elf_image.proofs.Accepted.{Accepted, accepted_from}
use Rattle.eh_codes.specs.declared.row.Entry.{Entry}
use Rattle.eh_codes.specs.declared.row.EntryBody.{EntryBody}
use Rattle.eh_codes.specs.declared.row.EntryBody.TheVariants.{CantUnwind, Inline, Table}
use Rattle.eh_codes.specs.declared.row.TheConstants.{ROW_SIZE, CANT_UNWIND}
use Rattle.eh_codes.specs.declared.words.TheConstants.{COMPACT_MARK}
use Rattle.eh_codes.specs.Rows.{body_of}
use Rattle.eh_word.specs.Words.{prel31_of}
use Rattle.eh_index.specs.Rows.{second_word, entry_at, entry_count}
use Rattle.eh_index.specs.Places.{is_code_bound, is_table_place}
use Rattle.eh_index.specs.Refusal.{index_refusal}
use Rattle.eh_index.proofs.Search.{entry_stands, rises}
use Rattle.gnu_descriptors.specs.declared.scopes.GnuDescriptor.{GnuDescriptor}
use Rattle.gnu_descriptors.specs.Codes.{codes_of}
use Rattle.gnu_descriptors.specs.Scopes.{scopes_of}
use Rattle.gnu_lsda.specs.declared.fault.EntryFault.{EntryFault}
use Rattle.gnu_lsda.specs.declared.lsda.HeadFault.{HeadFault}
use Rattle.gnu_lsda.specs.Entries.{Form, with_first, generic_entry_in, generic_in, range_size, generic_of, personality_in}
use Rattle.gnu_lsda.specs.Heads.{Area, area_of}
use Rattle.gnu_lsda.specs.Faults.{fault_with}
use Rattle.elf_image.specs.Functions.{segment_at}
use Rattle.eh_word.specs.Words.{number_at}
use Rattle.gnu_compact.specs.Tables.{table_bytes}
use Rattle.gnu_index.specs.Lists.{Lists}
use Rattle.gnu_index.specs.Tables.{descriptors_of, no_tables, place_after, with_same_row, with_refused_entry, with_table, with_area, with_entry_or_fault, with_entry, with_row, rewrite_rows}
use Rattle.gnu_rewrite_laws.proofs.Words.{Small, small_all, small_part, word_small}
use Rattle.gnu_rewrite_laws.proofs.Sizes.{table_whole}

-- ---- the index of a file has bytes

abbrev SegmentsSmall : List Segment → Type 0
SegmentsSmall [] = Unit {0}
SegmentsSmall (s ∷ more) = Small s.bytes × SegmentsSmall more

small_segment : (file : List ℕ) (h : ProgramHeader) → Small file → Small (segment_of file h).bytes
unfolding segment_of
small_segment file h s = small_part file h.offset h.file_size s

small_mapped : (file : List ℕ) (es : List (ℕ × ProgramHeader)) → Small file → SegmentsSmall (map (λ entry. segment_of file entry.1) es)
small_mapped file [] s = tt
small_mapped file (e ∷ es) s = (small_segment file e.1 s, small_mapped file es s)

small_segments : (file : List ℕ) → Small file → SegmentsSmall (file_segments file)
unfolding segments_of
small_segments file s = small_mapped file _ s

abbrev SmallIn : Option Segment → Type 0
SmallIn None = Unit {0}
SmallIn (Some s) = Small s.bytes

small_step : (b : Bool) (s : Segment) (o : Option Segment) → Small s.bytes → SmallIn o → SmallIn (cond b (Some s) o)
small_step true s o h k = h
small_step false s o h k = k

small_found : (p : Segment → Bool) (segments : List Segment) → SegmentsSmall segments → SmallIn (find p segments)
small_found p [] h = tt
small_found p (s ∷ segments) h = small_step (p s) s (find p segments) h.0 (small_found p segments h.1)

no_bytes : Small []
no_bytes i = omega arith

small_in : (h : ProgramHeader) (o : Option Segment) → SmallIn o → Small (index_bytes_in h o)
small_in h None k = no_bytes
small_in h (Some s) k = small_part s.bytes (h.address - s.start) h.memory_size k

small_index_of : (headers : List ProgramHeader) (segments : List Segment) → SegmentsSmall segments → Small (index_of headers segments).1
unfolding index_of
small_index_of [] segments k = no_bytes
small_index_of (h ∷ more) segments k = small_in h (find (holds_index h) segments) (small_found (holds_index h) segments k)

index_as : (file : List ℕ) (image : Image) → Accepted file image → image.index_bytes ≡ (index_of (file_indexes file) (file_segments file)).1
unfolding image_with
index_as file image k = ap (λ (i : Image). i.index_bytes) k.image_is

pub small_index : (file : List ℕ) (image : Image) → All (λ b. b < 256) file → image_of file ≡ Ok image → Small image.index_bytes
small_index file image all h =
    subst Small (sym (index_as file image (accepted_from file image h))) (small_index_of (file_indexes file) (file_segments file) (small_segments file (small_all file all)))

-- ---- a row

-- a table stands at an offset of the new ones, which have so many bytes
pub record Fresh (base n a : ℕ) : Type 0 where
  pub offset : ℕ
  pub is : a ≡ (base + offset) % 2 ^ 32
  pub whole : offset % 4 ≡ 0
  pub inside : offset < n

abbrev pub BodyOk : List Segment → ℕ → ℕ → EntryBody → Type 0
BodyOk segments base n CantUnwind = Unit {0}
BodyOk segments base n (Inline word) = (COMPACT_MARK ≤ word) × (word < 2 ^ 32)
BodyOk segments base n (Table a) = (is_table_place segments (Table a) ≡ true) ⊎ Fresh base n a

pub record RowOk (segments : List Segment) (base n : ℕ) (e : Entry) : Type 0 where
  pub even : e.start % 2 ≡ 0
  pub code : is_code_bound segments e.start ≡ true
  pub body : BodyOk segments base n e.body

abbrev pub RowsOk : List Segment → ℕ → ℕ → List Entry → Type 0
RowsOk segments base n [] = Unit {0}
RowsOk segments base n (e ∷ more) = RowOk segments base n e × RowsOk segments base n more

body_more : (segments : List Segment) (base n m : ℕ) (b : EntryBody) → n ≤ m → BodyOk segments base n b → BodyOk segments base m b
body_more segments base n m CantUnwind h k = tt
body_more segments base n m (Inline word) h k = k
body_more segments base n m (Table a) h (inl there) = inl there
body_more segments base n m (Table a) h (inr f) = inr (record { offset = f.offset; is = f.is; whole = f.whole; inside = omega (arith, h, f.inside) })

row_more : (segments : List Segment) (base n m : ℕ) (e : Entry) → n ≤ m → RowOk segments base n e → RowOk segments base m e
row_more segments base n m e h k = record { even = k.even; code = k.code; body = body_more segments base n m e.body h k.body }

rows_more : (segments : List Segment) (base n m : ℕ) (es : List Entry) → n ≤ m → RowsOk segments base n es → RowsOk segments base m es
rows_more segments base n m [] h k = tt
rows_more segments base n m (e ∷ es) h k = (row_more segments base n m e h k.0, rows_more segments base n m es h k.1)

rows_push : (segments : List Segment) (base n : ℕ) (es : List Entry) (e : Entry) → RowsOk segments base n es → RowOk segments base n e → RowsOk segments base n (es ++ e ∷ [])
rows_push segments base n [] e h k = (k, tt)
rows_push segments base n (x ∷ es) e h k = (h.0, rows_push segments base n es e h.1 k)

-- ---- rows in order

abbrev pub InOrder : ℕ → List Entry → Type 0
InOrder low [] = Unit {0}
InOrder low (e ∷ more) = (low ≤ e.start) × InOrder e.start more

abbrev pub UpTo : ℕ → List Entry → Type 0
UpTo high [] = Unit {0}
UpTo high (e ∷ more) = (e.start ≤ high) × UpTo high more

order_push : (low : ℕ) (es : List Entry) (e : Entry) → InOrder low es → low ≤ e.start → UpTo e.start es → InOrder low (es ++ e ∷ [])
order_push low [] e h k u = (k, tt)
order_push low (x ∷ es) e h k u = (h.0, order_push x.start es e h.1 u.0 u.1)

up_more : (a b : ℕ) (es : List Entry) → a ≤ b → UpTo a es → UpTo b es
up_more a b [] h u = tt
up_more a b (e ∷ es) h u = (omega (arith, h, u.0), up_more a b es h u.1)

up_push : (a : ℕ) (es : List Entry) (e : Entry) → UpTo a es → e.start ≤ a → UpTo a (es ++ e ∷ [])
up_push a [] e u h = (h, tt)
up_push a (x ∷ es) e u h = (u.0, up_push a es e u.1 h)

-- ---- the rows of an image that was read

even_of : (n : ℕ) → (n - n % 2) % 2 ≡ 0
even_of n = omega arith

body_ok : (segments : List Segment) (base n place word : ℕ) → word < 2 ^ 32 → is_table_place segments (body_of place word) ≡ true → BodyOk segments base n (body_of place word)
body_ok segments base n place word low h = by (nat_eq word CANT_UNWIND) (nat_le COMPACT_MARK word) refl h
  where
    by : (b c : Bool) → nat_le COMPACT_MARK word ≡ c → is_table_place segments (cond b CantUnwind (cond c (Inline word) (Table (prel31_of place word)))) ≡ true
        → BodyOk segments base n (cond b CantUnwind (cond c (Inline word) (Table (prel31_of place word))))
    by true c e h = tt
    by false true e h = (grind (arith, nat_tests), low)
    by false false e h = inl h

pub row_of_image : (image : Image) (base n k : ℕ) → Small image.index_bytes → index_refusal image ≡ None → k < entry_count image → RowOk image.segments base n (entry_at image k)
row_of_image image base n k small h inside =
    let is = entry_stands image h k inside in
    record {
      even = even_of _;
      code = is.code;
      body = body_ok image.segments base n ((image.index_start + ROW_SIZE * k + 4) % 2 ^ 32) (second_word image k) (word_small image.index_bytes (ROW_SIZE * k + 4) small) is.table;
    }

-- ---- a generic entry begins where its row does

abbrev Starts : ℕ → Option Form → Type 0
Starts start None = Unit {0}
Starts start (Some f) = f.start ≡ start

starts_first : (s : Segment) (place start size : ℕ) (o : Option ℕ) → Starts start (with_first s place start size o)
starts_first s place start size None = tt
starts_first s place start size (Some first) = by (Rattle.std.specs.Prelude.nat_lt first COMPACT_MARK)
  where
    by : (b : Bool) → Starts start (cond b (Some (record { bytes = s.bytes; address = s.start; place = place; first = first; start = start; size = size })) None)
    by true = refl
    by false = tt

starts_held : (at start size : ℕ) (o : Option Segment) → Starts start (generic_entry_in at start size o)
starts_held at start size None = tt
starts_held at start size (Some s) = by _
  where
    by : (b : Bool) → Starts start (cond b (with_first s (at - s.start) start size (number_at 4 s.bytes (at - s.start))) None)
    by true = starts_first s (at - s.start) start size (number_at 4 s.bytes (at - s.start))
    by false = tt

starts_in : (image : Image) (start size : ℕ) (b : EntryBody) → Starts start (generic_in image start size b)
starts_in image start size CantUnwind = tt
starts_in image start size (Inline word) = tt
starts_in image start size (Table at) = starts_held at start size (segment_at image.segments at)

starts : (image : Image) (k : ℕ) → Starts (entry_at image k).start (generic_of image k)
starts image k = starts_in image (entry_at image k).start (range_size image k) (entry_at image k).body

-- ---- all rows, one after the other

-- what holds of the tables and rows so far, all of which begin at or below an address
pub record Made (segments : List Segment) (base high : ℕ) (t : Lists) : Type 0 where
  pub whole : length t.bytes % 4 ≡ 0
  pub rows : RowsOk segments base (length t.bytes) t.rows
  pub order : InOrder 0 t.rows
  pub upto : UpTo high t.rows

made_row : (segments : List Segment) (base : ℕ) (t : Lists) (row : Entry) → Made segments base row.start t → RowOk segments base (length t.bytes) row → Made segments base row.start (with_same_row t row)
made_row segments base t row m ok = record {
  whole = m.whole;
  rows = rows_push segments base (length t.bytes) t.rows row m.rows ok;
  order = order_push 0 t.rows row m.order (omega arith) m.upto;
  upto = up_push row.start t.rows row m.upto (omega arith);
}

made_refused : (segments : List Segment) (base start : ℕ) (t : Lists) (fault : EntryFault) → Made segments base start t → start % 2 ≡ 0 → is_code_bound segments start ≡ true
    → Made segments base start (with_refused_entry t start fault)
made_refused segments base start t fault m even code =
    let row : Entry = record { start = start; body = CantUnwind } in
    let ok : RowOk segments base (length t.bytes) row = record { even = even; code = code; body = tt } in
    record {
      whole = m.whole;
      rows = rows_push segments base (length t.bytes) t.rows row m.rows ok;
      order = order_push 0 t.rows row m.order (omega arith) m.upto;
      upto = up_push start t.rows row m.upto (omega arith);
    }

made_table : (segments : List Segment) (base start : ℕ) (t : Lists) (codes : List ℕ) (scopes : List GnuDescriptor) → Made segments base start t → start % 2 ≡ 0 → is_code_bound segments start ≡ true
    → Made segments base start (with_table (place_after base t) t start codes scopes)
made_table segments base start t codes scopes m even code =
    let place = place_after base t in
    let row : Entry = record { start = start; body = Table place } in
    let table = table_whole place codes (descriptors_of scopes) in
    let size = length-append t.bytes (table_bytes place codes (descriptors_of scopes)) in
    let long : length t.bytes < length (t.bytes ++ table_bytes place codes (descriptors_of scopes)) = omega (arith, size, table.1) in
    let fresh : Fresh base (length (t.bytes ++ table_bytes place codes (descriptors_of scopes))) place = record { offset = length t.bytes; is = refl; whole = m.whole; inside = long } in
    let ok : RowOk segments base (length (t.bytes ++ table_bytes place codes (descriptors_of scopes))) row = record { even = even; code = code; body = inr fresh } in
    record {
      whole = omega (arith, m.whole, size, table.0);
      rows = rows_push segments base (length (t.bytes ++ table_bytes place codes (descriptors_of scopes))) t.rows row
          (rows_more segments base (length t.bytes) (length (t.bytes ++ table_bytes place codes (descriptors_of scopes))) t.rows (omega (arith, long)) m.rows) ok;
      order = order_push 0 t.rows row m.order (omega arith) m.upto;
      upto = up_push start t.rows row m.upto (omega arith);
    }

made_area : (segments : List Segment) (base start : ℕ) (t : Lists) (f : Form) (r : Result Area HeadFault) → f.start ≡ start → Made segments base start t → start % 2 ≡ 0 → is_code_bound segments start ≡ true
    → Made segments base start (with_area (place_after base t) t f r)
made_area segments base start t f (Ok a) e m even code =
    subst (λ (n : ℕ). Made segments base start (with_table (place_after base t) t n (codes_of f) (scopes_of f a))) (sym e) (made_table segments base start t (codes_of f) (scopes_of f a) m even code)
made_area segments base start t f (Err fault) e m even code = m

made_judged : (segments : List Segment) (base start : ℕ) (t : Lists) (f : Form) (o : Option EntryFault) → f.start ≡ start → Made segments base start t → start % 2 ≡ 0 → is_code_bound segments start ≡ true
    → Made segments base start (with_entry_or_fault (place_after base t) t f o)
made_judged segments base start t f None e m even code = made_area segments base start t f (area_of f) e m even code
made_judged segments base start t f (Some fault) e m even code =
    subst (λ (n : ℕ). Made segments base start (with_refused_entry t n fault)) (sym e) (made_refused segments base start t fault m even code)

made_entry : (image : Image) (segments : List Segment) (personality : Option ℕ) (base : ℕ) (t : Lists) (row : Entry) (o : Option Form) → Starts row.start o → Made segments base row.start t
    → RowOk segments base (length t.bytes) row → Made segments base row.start (with_entry image personality (place_after base t) t row o)
made_entry image segments personality base t row None s m ok = made_row segments base t row m ok
made_entry image segments personality base t row (Some f) s m ok = made_judged segments base row.start t f (fault_with image personality f) s m ok.even ok.code

made_higher : (segments : List Segment) (base low high : ℕ) (t : Lists) → low ≤ high → Made segments base low t → Made segments base high t
made_higher segments base low high t h m = record { whole = m.whole; rows = m.rows; order = m.order; upto = up_more low high t.rows h m.upto }

made_rows : (image : Image) (base k n high : ℕ) (t : Lists) → Small image.index_bytes → index_refusal image ≡ None → k + n ≤ entry_count image → (k < entry_count image → high ≤ (entry_at image k).start)
    → Made image.segments base high t → (end : ℕ) × Made image.segments base end (fold (with_row image base) t (range_with_len k n))
made_rows image base k zero high t small h inside up m = (high, m)
made_rows image base k (suc n) high t small h inside up m =
    let here : k < entry_count image = omega (arith, inside) in
    let row = entry_at image k in
    made_rows image base (k + 1) n row.start (with_row image base t k) small h (omega (arith, inside)) (λ next. rises image h k (k + 1) (omega arith) next)
    (made_entry image image.segments (personality_in image) base t row (generic_of image k) (starts image k) (made_higher image.segments base high row.start t (up here) m)
    (row_of_image image base (length t.bytes) k small h here))

pub all_made : (image : Image) (base : ℕ) → Small image.index_bytes → index_refusal image ≡ None → (end : ℕ) × Made image.segments base end (rewrite_rows image base)
unfolding rewrite_rows
all_made image base small h =
    made_rows image base 0 (entry_count image) 0 no_tables small h (omega arith) (λ some. omega arith) (record { whole = refl; rows = tt; order = tt; upto = tt })
