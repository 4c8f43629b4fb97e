-- The parts that are made, and whether they pass a limit.
use Rattle.std.proofs.Common.{◌≡◌, ℕ, ◌+◌, ◌*◌, ◌%◌, ◌^◌, ◌<◌, ◌≤◌, ◌==◌, not, Bool, true, false, cond, nat_lt, List, [], ◌∷◌, ◌++◌, length, map, refl, ap, sym, ◌∙◌, arith, length-append}
use Rattle.std.specs.Prelude.{sum_by}
use Rattle.std.proofs.lemmas.List.Sums.{sum_by-append}
use Rattle.std.proofs.lemmas.Bool.Decides.{nat_tests}
use Rattle.elf_image.specs.Image.{Image}
use Rattle.elf_image.specs.declared.limits.TheConstants.{MEMORY_LIMIT}
use Rattle.eh_codes.specs.Rows.{row_bytes, rows_bytes}
use Rattle.eh_codes.specs.declared.row.Entry.{Entry}
use Rattle.elf_write.specs.declared.parts.OwnSegment.{OwnSegment}
use Rattle.elf_write.specs.declared.parts.OwnSymbol.{OwnSymbol}
use Rattle.elf_write.specs.declared.parts.ImageParts.{ImageParts}
use Rattle.gnu_index.specs.Lists.{Lists}
use Rattle.gnu_rewrite.specs.Segments.{tables_start, rows_start, new_bytes, read_only, segment_from, kept_segment, segments_of, index_at}
use Rattle.gnu_rewrite.specs.Symbols.{symbols_of}
use Rattle.gnu_rewrite.specs.Sizes.{names_size, is_too_large}
use Rattle.gnu_rewrite.specs.Parts.{parts_with}
use Rattle.gnu_rewrite.specs.Refusal.{passes_limits}
use Rattle.gnu_rewrite.proofs.Sizes.{limits_are}

-- ---- too many bytes of tables and rows

row_length : (place : ℕ) (row : Entry) → length (row_bytes place row) ≡ 8
unfolding row_bytes
row_length place row = refl

pub rows_length : (place : ℕ) (rows : List Entry) → length (rows_bytes place rows) ≡ 8 * length rows
rows_length place [] = refl
rows_length place (row ∷ rows) =
    let next = (place + 8) % 2 ^ 32 in
    omega (arith, length-append (row_bytes place row) (rows_bytes next rows), row_length place row, rows_length next rows)

memory_of : (start : ℕ) (bytes : List ℕ) (b : Bool) → (length bytes == 0) ≡ b → sum_by (λ (s : OwnSegment). s.size) (cond b [] (read_only start bytes ∷ [])) ≡ length bytes
memory_of start bytes true e = grind (arith, nat_tests)
memory_of start bytes false e = omega arith

pub new_memory : (start : ℕ) (bytes : List ℕ) → sum_by (λ (s : OwnSegment). s.size) (segment_from start bytes) ≡ length bytes
new_memory start bytes = memory_of start bytes (length bytes == 0) refl

is_more : (n m : ℕ) → n < m → nat_lt n m ≡ true
is_more n m h = grind (arith, nat_tests)

bytes_length : (image : Image) (t : Lists) → length (new_bytes image t) ≡ length t.bytes + 8 * length t.rows
bytes_length image t = length-append t.bytes (rows_bytes (rows_start image t) t.rows) ∙ ap (λ (n : ℕ). length t.bytes + n) (rows_length (rows_start image t) t.rows)

pub long_passes : (image : Image) (t : Lists) → MEMORY_LIMIT < length t.bytes + 8 * length t.rows → passes_limits (parts_with image t) ≡ true
unfolding passes_limits parts_with
long_passes image t h =
    let old = map kept_segment image.segments in
    let new = segment_from (tables_start image) (new_bytes image t) in
    let all = sum_by-append (λ (s : OwnSegment). s.size) old new in
    let more : MEMORY_LIMIT < sum_by (λ (s : OwnSegment). s.size) (old ++ new) = omega (arith, all, new_memory (tables_start image) (new_bytes image t), bytes_length image t, h) in
    let test : nat_lt MEMORY_LIMIT (sum_by (λ (s : OwnSegment). s.size) (old ++ new)) ≡ true = is_more MEMORY_LIMIT (sum_by (λ (s : OwnSegment). s.size) (old ++ new)) more in
    rw test refl

-- ---- the parts

same_parts : (parts : ImageParts) (entry : ℕ) (segments : List OwnSegment) (symbols : List OwnSymbol) (index : ℕ × ℕ) → parts.entry ≡ entry → parts.segments ≡ segments → parts.symbols ≡ symbols → parts.index ≡ index
    → parts ≡ record { entry = entry; segments = segments; symbols = symbols; index = index }
same_parts parts entry segments symbols index a b c d = rw (sym a, sym b, sym c, sym d) refl

pub parts_are : (image : Image) (t : Lists) (parts : ImageParts) → parts.entry ≡ image.entry → parts.segments ≡ segments_of image t → parts.symbols ≡ symbols_of image
    → parts.index ≡ index_at (rows_start image t) t.rows → parts ≡ parts_with image t
unfolding parts_with
parts_are image t parts entry segments symbols index = same_parts parts image.entry (segments_of image t) (symbols_of image) (index_at (rows_start image t) t.rows) entry segments symbols index

index_is : (place : ℕ) (rows : List Entry) → not ((index_at place rows).1 == 0) ≡ not (length rows == 0)
index_is place [] = refl
index_is place (row ∷ rows) = grind (arith, nat_tests)

pub limits_with : (image : Image) (t : Lists) (segments : List OwnSegment) (has : Bool) (b : Bool) → segments ≡ segments_of image t → has ≡ not (length t.rows == 0)
    → is_too_large segments has (length (symbols_of image)) (names_size (symbols_of image)) ≡ b → passes_limits (parts_with image t) ≡ b
unfolding parts_with
limits_with image t segments has b e g h =
    let parts : ImageParts = parts_with image t in
    let has_is : has ≡ not (parts.index.1 == 0) = g ∙ sym (index_is (rows_start image t) t.rows) in
    limits_are parts
    ∙ ap (λ (l : List OwnSegment). is_too_large l (not (parts.index.1 == 0)) (length (symbols_of image)) (names_size (symbols_of image))) (sym e)
    ∙ ap (λ (x : Bool). is_too_large segments x (length (symbols_of image)) (names_size (symbols_of image))) (sym has_is)
    ∙ h

pub ruleset making = (parts_are, limits_with)

-- ---- the bytes of the new segment

pub few_bytes : (bytes tables : List ℕ) (place : ℕ) (rows : List Entry) → bytes ≡ tables ++ rows_bytes place rows → length tables + 8 * length rows ≤ MEMORY_LIMIT → length bytes < 2 ^ 32
few_bytes bytes tables place rows e h =
    let all : length bytes ≡ length tables + length (rows_bytes place rows) = ap (λ (l : List ℕ). length l) e ∙ length-append tables (rows_bytes place rows) in
    omega (arith, all, rows_length place rows, h)
