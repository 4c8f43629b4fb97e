-- Rows that are written one after the other are read as the entries that they were written for.
use Rattle.std.proofs.Common.{◌≡◌, ℕ, suc, ◌+◌, ◌-◌, ◌*◌, ◌%◌, ◌^◌, ◌<◌, List, [], ◌∷◌, length, map, Some, refl, sym, ◌∙◌, ap, arith, subst}
use Rattle.std.specs.Prelude.{slice_get}
use Rattle.std.specs.List.{range_with_len, All}
use Rattle.std.proofs.lemmas.List.Elements.{All-weaker, All-get_or}
use Rattle.std.proofs.lemmas.Option.{get_or_from_slice_get, slice_get_within}
use Rattle.elf_image.specs.Image.{Image}
use Rattle.eh_codes.specs.declared.row.Entry.{Entry}
use Rattle.eh_codes.specs.declared.row.TheConstants.{ROW_SIZE}
use Rattle.eh_codes.specs.Laws.{IsLow, SaysRow, HasRows}
use Rattle.eh_codes.proofs.RowBytes.{law_of_saying, law_of_reading}
use Rattle.eh_index.specs.Rows.{entry_at, entry_count, entries_of}
use Rattle.eh_index.specs.Laws.{IsRow, RowsAreRead}

even_start : (s : ℕ) → s % 2 ≡ 0 → s - s % 2 ≡ s
even_start s h = omega arith

maps_are : (f : ℕ → Entry) (low : ℕ) (rows : List Entry) → ((k : ℕ) (row : Entry) → slice_get rows k ≡ Some row → f (low + k) ≡ row)
    → map f (range_with_len low (length rows)) ≡ rows
maps_are f low [] each = refl
maps_are f low (row ∷ rows) each =
    let here : low + 0 ≡ low = omega arith in
    let first : f low ≡ row = ap f (sym here) ∙ each 0 row refl in
    let after : (k : ℕ) (r : Entry) → slice_get rows k ≡ Some r → f (low + 1 + k) ≡ r =
    λ k r e. ap f (let same : low + 1 + k ≡ low + suc k = omega arith in same) ∙ each (suc k) r e in
    ap (λ (r : Entry). r ∷ map f (range_with_len (low + 1) (length rows))) first ∙ ap (λ (rs : List Entry). row ∷ rs) (maps_are f (low + 1) rows after)

row_at : (rows : List Entry) (k : ℕ) (row : Entry) → All IsRow rows → slice_get rows k ≡ Some row → IsRow row
row_at rows k row all e = subst IsRow (get_or_from_slice_get rows k row row e) (All-get_or IsRow rows k row (slice_get_within rows k row e) all)

read_one : (image : Image) (row : Entry) (k : ℕ) → IsRow row → SaysRow row image.index_start image.index_bytes (ROW_SIZE * k) → image.index_start % 4 ≡ 0
    → image.index_start + ROW_SIZE * (k + 1) < 2 ^ 30 → entry_at image k ≡ row
read_one image row k is says whole fits =
    law_of_reading row image.index_start image.index_bytes (ROW_SIZE * k) says is.body (omega arith) (omega arith)
    ∙ ap (λ (s : ℕ). record { start = s; body = row.body }) (even_start row.start is.even)

pub rows_are_read : RowsAreRead
unfolding entries_of
rows_are_read image entries all whole fits e =
    let low : All IsLow entries = All-weaker IsRow IsLow (λ row is. is.low) entries all in
    let has : HasRows entries image.index_start image.index_bytes =
    subst (HasRows entries image.index_start) (sym e) (law_of_saying image.index_start entries low (omega arith)) in
    let count : entry_count image ≡ length entries = omega (arith, has.size) in
    ap (λ (n : ℕ). map (entry_at image) (range_with_len 0 n)) count
    ∙ maps_are (entry_at image) 0 entries (λ k row is.
    let inside : k < length entries = slice_get_within entries k row is in
    let zero_more : 0 + k ≡ k = omega arith in
    ap (entry_at image) zero_more ∙ read_one image row k (row_at entries k row all is) (has.each k row is) whole (omega (arith, inside)))
