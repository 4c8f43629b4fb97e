-- Nothing is refused of the file that is laid out for good parts.
use Rattle.std.proofs.Common.{◌≡◌, ℕ, ◌+◌, ◌-◌, ◌*◌, ◌/◌, ◌%◌, ◌≤◌, ◌==◌, not, ◌&&◌, ◌||◌, Bool, true, false, cond, nat_lt, List, [], ◌∷◌, ◌++◌, length, drop, filter, Option, Some, None, Result, Ok, Err, refl, ap, ◌∙◌, arith, length-append}
use Rattle.std.specs.Prelude.{sum_by}
use Rattle.std.specs.List.{list_any}
use Rattle.std.proofs.lemmas.Bool.Decides.{nat_tests}
use Rattle.std.proofs.lemmas.List.{length-drop}
use Rattle.eh_word.specs.Bytes.{zeros}
use Rattle.elf_image.specs.Format.{first_of, fault_when, missing, file_header as header_fields, entry_field, program_offset, section_offset, program_count, section_count}
use Rattle.elf_image.specs.Header.{header_refusal, table_refusal}
use Rattle.elf_image.specs.Segments.{Segment, is_load, bytes_refusal, is_out_of_range as is_header_out, overlap, some_overlap, segment_refusal}
use Rattle.elf_image.specs.Index.{is_index, index_refusal}
use Rattle.elf_image.specs.Symbols.{Symbol, tables_refusal, symbol_count}
use Rattle.elf_image.specs.Functions.{Function, functions_of}
use Rattle.elf_image.specs.Image.{Image, image_of, refusal_of, unless_refused, size_refusal, count_refusal, entry_refusal, file_loads, file_indexes, file_segments, file_table, file_symbols, file_functions, table_in}
use Rattle.elf_image.specs.declared.fault.ImageFault.{ImageFault}
use Rattle.elf_image.specs.declared.fault.ImageFault.TheVariants.{Truncated, EntrySize, TooLarge}
use Rattle.elf_image.specs.declared.format.ProgramHeader.{ProgramHeader}
use Rattle.elf_image.specs.declared.format.SectionHeader.{SectionHeader}
use Rattle.elf_image.specs.declared.limits.TheConstants.{MEMORY_LIMIT, SEGMENT_LIMIT, SYMBOL_LIMIT, FUNCTION_LIMIT}
use Rattle.elf_write.specs.Layout.{word, half, align_to_word, contents, has_index, base_of, section_bytes, symbol_rows, table_of, Plan, table_at, strings_at, names_at, sections_at, file_end, identity, header_sizes, file_header, sections_of, plan_of, layout_of, is_too_long, is_read, bytes_if_image, write_result}
use Rattle.elf_write.specs.Parts.{IsWord, AreParts, has_memory, holds_range, segments_of_parts, symbols_of_parts, image_of_parts}
use Rattle.elf_write.specs.declared.parts.OwnSegment.{OwnSegment}
use Rattle.elf_write.specs.declared.parts.ImageParts.{ImageParts}
use Rattle.elf_write.proofs.Layouts.{length_zeros, length_rows}
use Rattle.elf_write.proofs.Planning.{length_programs}
use Rattle.elf_write.proofs.Pieces.{section, piece_is}
use Rattle.elf_write.proofs.Programs.{header_of, headers_of, first_place, index_headers, indexes_back, loads_are}
use Rattle.elf_write.proofs.Sections.{length_section, length_section_rows}
use Rattle.elf_write.proofs.Standing.{stands}
use Rattle.elf_laws.specs.Good.{is_out_of_range, meet, some_meet, own_functions, AreGood, GoodPartsAreRead, GoodPartsMeanTheirImage}
use Rattle.elf_laws.proofs.Standing.{after_header, shape, Reads, file_reads, not_long, index_place, programs_back, segments_back, table_head, strings_head, tables_are, symbols_are}

-- ---- tests

lt_isnt : (a b : ℕ) → b ≤ a → nat_lt a b ≡ false
lt_isnt a b h = grind (arith, nat_tests)

and_false : (b : Bool) → (b && false) ≡ false
and_false true = refl
and_false false = refl

-- what is there is not missing
there : (bytes : List ℕ) (at size : ℕ) → at + size ≤ length bytes → missing bytes at size ≡ None
there bytes at size h = tested (size == 0)
  where
    tested : (b : Bool) → cond b None (cond (nat_lt (length bytes) (at + size)) (Some (Truncated (at + size))) None) ≡ None
    tested true = refl
    tested false = rw (lt_isnt (length bytes) (at + size) h) refl

-- ---- the header of the file and the tables of headers

header_none : (p : Plan) (rest : List ℕ) → header_refusal (file_header p ++ rest) ≡ None
unfolding header_refusal file_header identity header_sizes word half zeros
header_none p rest =
    let size : nat_lt (length (file_header p ++ rest)) 52 ≡ false = lt_isnt (length (file_header p ++ rest)) 52 (omega (arith, length-append (file_header p) rest)) in
    rw size refl

program_size_is : (p : Plan) (rest : List ℕ) → (header_fields (file_header p ++ rest)).program_size ≡ 32
unfolding file_header identity header_sizes word half zeros
program_size_is p rest = refl

section_size_is : (p : Plan) (rest : List ℕ) → (header_fields (file_header p ++ rest)).section_size ≡ 40
unfolding file_header identity header_sizes word half zeros
section_size_is p rest = refl

headers_by : (a b : ℕ) (c d : Bool) (m n : Option ImageFault) → a ≡ 32 → b ≡ 40 → m ≡ None → n ≡ None
    → first_of (fault_when ((c && not (a == 32)) || (d && not (b == 40))) EntrySize ∷ m ∷ n ∷ []) ≡ None
headers_by a b c d m n s t h g = rw (s, t, and_false c, and_false d, h, g) refl

-- ---- how long the file is

length_sections : (parts : ImageParts) → length (sections_of (plan_of parts)) ≡ 40 * (length parts.segments + 4)
unfolding plan_of sections_of
length_sections parts =
    let p = plan_of parts in
    let a : List ℕ = section_bytes (section (length p.names - 26) 2 0 0 (table_at p) (length p.table) (p.segment_total + 2) p.locals 16) in
    let b : List ℕ = section_bytes (section (length p.names - 18) 3 0 0 (strings_at p) (length p.strings) 0 0 0) in
    let c : List ℕ = section_bytes (section (length p.names - 10) 3 0 0 (names_at p) (length p.names) 0 0 0) in
    let all : length ((((zeros 40 ++ p.segment_rows) ++ a) ++ b) ++ c) ≡ length (zeros 40) + length p.segment_rows + length a + length b + length c =
    simp length-append in
    omega (
      arith,
      all,
      length_zeros 40,
      length_section_rows 0 1 (base_of parts) parts.segments,
      length_section (length p.names - 26) 2 0 0 (table_at p) (length p.table) (p.segment_total + 2) p.locals 16,
      length_section (length p.names - 18) 3 0 0 (strings_at p) (length p.strings) 0 0 0,
      length_section (length p.names - 10) 3 0 0 (names_at p) (length p.names) 0 0 0,
    )

-- where the pieces end
record Ends (parts : ImageParts) (bytes : List ℕ) : Type 0 where
  programs : 52 + 32 * (length (plan_of parts).programs / 32) ≤ length bytes
  contents : base_of parts + length (contents (base_of parts) parts.segments) ≤ length bytes
  table : table_at (plan_of parts) + length (plan_of parts).table ≤ length bytes
  strings : strings_at (plan_of parts) + length (plan_of parts).strings ≤ length bytes
  sections : sections_at (plan_of parts) + 40 * ((plan_of parts).segment_total + 4) ≤ length bytes

ends : (parts : ImageParts) (bytes : List ℕ) → Reads (plan_of parts) bytes → Ends parts bytes
unfolding plan_of
ends parts bytes r =
    let p = plan_of parts in
    let rest : length (drop (sections_at p) bytes) ≡ 40 * (length parts.segments + 4) = ap length r.sections ∙ length_sections parts in
    let whole : sections_at p + 40 * (length parts.segments + 4) ≡ length bytes = omega (arith, rest, length-drop (sections_at p) bytes) in
    let base = length_programs (base_of parts) parts in
    record {
      programs = omega (arith, whole);
      contents = omega (arith, whole, base);
      table = omega (arith, whole);
      strings = omega (arith, whole);
      sections = omega (arith, whole);
    }

-- ---- the segments

bytes_step : (bytes : List ℕ) (b : Bool) (h : ProgramHeader) (hs : List ProgramHeader) → missing bytes h.offset h.file_size ≡ None → bytes_refusal bytes hs ≡ None
    → bytes_refusal bytes (cond b (h ∷ hs) hs) ≡ None
bytes_step bytes true h hs m g = rw (m, g) refl
bytes_step bytes false h hs m g = g

bytes_none : (bytes : List ℕ) (at : ℕ) (xs : List OwnSegment) → at + length (contents at xs) ≤ length bytes → bytes_refusal bytes (filter is_load (headers_of at xs)) ≡ None
bytes_none bytes at [] h = refl
bytes_none bytes at (s ∷ xs) h =
    let place = first_place at s xs in
    let next = align_to_word at + length s.bytes in
    bytes_step bytes (has_memory s) (header_of at s) (filter is_load (headers_of next xs)) (there bytes (align_to_word at) (length s.bytes) (omega (arith, place, h)))
    (bytes_none bytes next xs (omega (arith, place, h)))

any_step : (p : ProgramHeader → Bool) (q : OwnSegment → Bool) (b : Bool) (h : ProgramHeader) (s : OwnSegment) (hs : List ProgramHeader) (xs : List OwnSegment) → p h ≡ q s
    → list_any p hs ≡ list_any q xs → list_any p (cond b (h ∷ hs) hs) ≡ list_any q (cond b (s ∷ xs) xs)
any_step p q true h s hs xs one more = rw (one, more) refl
any_step p q false h s hs xs one more = more

out_same : (at : ℕ) (xs : List OwnSegment) → list_any is_header_out (filter is_load (headers_of at xs)) ≡ list_any is_out_of_range (filter has_memory xs)
out_same at [] = refl
out_same at (s ∷ xs) =
    let next = align_to_word at + length s.bytes in
    any_step is_header_out is_out_of_range (has_memory s) (header_of at s) s (filter is_load (headers_of next xs)) (filter has_memory xs) refl (out_same next xs)

meets_same : (from : ℕ) (t : OwnSegment) (at : ℕ) (xs : List OwnSegment)
    → list_any (overlap (header_of from t)) (filter is_load (headers_of at xs)) ≡ list_any (meet t) (filter has_memory xs)
meets_same from t at [] = refl
meets_same from t at (s ∷ xs) =
    let next = align_to_word at + length s.bytes in
    any_step (overlap (header_of from t)) (meet t) (has_memory s) (header_of at s) s (filter is_load (headers_of next xs)) (filter has_memory xs) refl (meets_same from t next xs)

overlap_step : (b : Bool) (h : ProgramHeader) (s : OwnSegment) (hs : List ProgramHeader) (xs : List OwnSegment) → list_any (overlap h) hs ≡ list_any (meet s) xs → some_overlap hs ≡ some_meet xs
    → some_overlap (cond b (h ∷ hs) hs) ≡ some_meet (cond b (s ∷ xs) xs)
overlap_step true h s hs xs one more = rw (one, more) refl
overlap_step false h s hs xs one more = more

overlap_same : (at : ℕ) (xs : List OwnSegment) → some_overlap (filter is_load (headers_of at xs)) ≡ some_meet (filter has_memory xs)
overlap_same at [] = refl
overlap_same at (s ∷ xs) =
    let next = align_to_word at + length s.bytes in
    overlap_step (has_memory s) (header_of at s) s (filter is_load (headers_of next xs)) (filter has_memory xs) (meets_same at s next xs) (overlap_same next xs)

segments_none : (bytes : List ℕ) (at : ℕ) (xs : List OwnSegment) → at + length (contents at xs) ≤ length bytes → list_any is_out_of_range (filter has_memory xs) ≡ false
    → some_meet (filter has_memory xs) ≡ false → segment_refusal bytes (filter is_load (headers_of at xs)) ≡ None
unfolding segment_refusal
segments_none bytes at xs inside fit apart =
    rw (bytes_none bytes at xs inside, out_same at xs, fit, overlap_same at xs, apart) refl

-- ---- the index

index_none : (b : Bool) (offset a z : ℕ) (segments : List Segment) → (b ≡ true → list_any (holds_range a z) segments ≡ true) → index_refusal (index_headers b offset a z) segments ≡ None
unfolding index_refusal
index_none true offset a z segments h = rw (h refl) refl
index_none false offset a z segments h = refl

-- ---- symbols, functions, the entry

tables_none : (bytes : List ℕ) (t s : SectionHeader) → t.offset + t.size ≤ length bytes → s.offset + s.size ≤ length bytes → tables_refusal bytes (Some (t, s)) ≡ None
unfolding tables_refusal
tables_none bytes t s h g = rw (there bytes t.offset t.size h, there bytes s.offset s.size g) refl

sizes_none : (segments : List Segment) (n : ℕ) → sum_by (λ s. s.size) segments ≤ MEMORY_LIMIT → length segments ≤ SEGMENT_LIMIT → n ≤ SYMBOL_LIMIT → size_refusal segments n ≡ None
unfolding size_refusal
sizes_none segments n m s c =
    rw (lt_isnt MEMORY_LIMIT (sum_by (λ s. s.size) segments) m, lt_isnt SEGMENT_LIMIT (length segments) s, lt_isnt SYMBOL_LIMIT n c) refl

count_none : (functions : List Function) → length functions ≤ FUNCTION_LIMIT → count_refusal functions ≡ None
unfolding count_refusal
count_none functions h = rw (lt_isnt FUNCTION_LIMIT (length functions) h) refl

entry_none : (field entry : ℕ) (functions : List Function) → field ≡ entry - entry % 2 + 1 → list_any (λ f. f.start == entry - entry % 2) functions ≡ true → entry_refusal field functions ≡ None
unfolding entry_refusal
entry_none field entry functions e h =
    let odd : (field % 2 == 1) ≡ true = grind (arith, nat_tests) in
    let same : field - 1 ≡ entry - entry % 2 = omega arith in
    rw (odd, same, h) refl

symbols_counted : (parts : ImageParts) (bytes : List ℕ) → length parts.segments ≤ SEGMENT_LIMIT → Reads (plan_of parts) bytes → IsWord (file_end (plan_of parts))
    → symbol_count (file_table bytes) ≡ length (symbols_of_parts parts)
unfolding plan_of table_head strings_head
symbols_counted parts bytes few r short =
    let p = plan_of parts in
    let rows : length (zeros 16 ++ symbol_rows 1 (table_of parts)) ≡ 16 + 16 * length (table_of parts) =
    omega (arith, length-append (zeros 16) (symbol_rows 1 (table_of parts)), length_zeros 16, length_rows 1 (table_of parts)) in
    ap (λ (t : Option (SectionHeader × SectionHeader)). symbol_count (table_in bytes t)) (tables_are parts bytes few r short)
    ∙ ap symbol_count (piece_is (table_at p) bytes p.table (drop (strings_at p) bytes) r.table)
    ∙ omega (arith, rows)

-- ---- all of it

none_of : (a b c d e f g h : Option ImageFault) → a ≡ None → b ≡ None → c ≡ None → d ≡ None → e ≡ None → f ≡ None → g ≡ None → h ≡ None
    → first_of (a ∷ b ∷ c ∷ d ∷ e ∷ f ∷ g ∷ h ∷ []) ≡ None
none_of a b c d e f g h i j k l m n o p = rw (i, j, k, l, m, n, o, p) refl

loads_there : (parts : ImageParts) (bytes : List ℕ) → AreParts parts → Reads (plan_of parts) bytes → IsWord (file_end (plan_of parts))
    → file_loads bytes ≡ filter is_load (headers_of (base_of parts) parts.segments)
loads_there parts bytes are r short =
    ap (λ (hs : List ProgramHeader). filter is_load hs) (programs_back parts bytes are r short)
    ∙ loads_are (has_index parts) (base_of parts) (index_place parts bytes) parts.index.0 parts.index.1 parts.segments

indexes_there : (parts : ImageParts) (bytes : List ℕ) → AreParts parts → Reads (plan_of parts) bytes → IsWord (file_end (plan_of parts))
    → file_indexes bytes ≡ index_headers (has_index parts) (index_place parts bytes) parts.index.0 parts.index.1
indexes_there parts bytes are r short =
    ap (λ (hs : List ProgramHeader). filter is_index hs) (programs_back parts bytes are r short)
    ∙ indexes_back (has_index parts) (base_of parts) (index_place parts bytes) parts.index.0 parts.index.1 parts.segments

nothing_refused : (parts : ImageParts) (bytes : List ℕ) → bytes ≡ file_header (plan_of parts) ++ after_header (plan_of parts) → AreGood parts → Reads (plan_of parts) bytes
    → length parts.segments ≤ SEGMENT_LIMIT → IsWord (file_end (plan_of parts)) → refusal_of bytes ≡ None
unfolding refusal_of table_refusal table_head strings_head plan_of
nothing_refused parts bytes shape_is good r few short =
    let p = plan_of parts in
    let rest = after_header p in
    let e = ends parts bytes r in
    let segments = segments_back parts bytes good.are r short in
    let symbols = symbols_are parts bytes good.are few r short in
    let functions : file_functions bytes ≡ own_functions parts =
    ap (λ (ss : List Segment). functions_of ss (file_symbols bytes)) segments ∙ ap (λ (xs : List Symbol). functions_of (segments_of_parts parts.segments) xs) symbols in
    none_of _ _ _ _ _ _ _ _
    (ap header_refusal shape_is ∙ header_none p rest)
    (headers_by _ _ (not (program_count bytes == 0)) (not (section_count bytes == 0)) _ _
    (ap (λ (b : List ℕ). (header_fields b).program_size) shape_is ∙ program_size_is p rest) (ap (λ (b : List ℕ). (header_fields b).section_size) shape_is ∙ section_size_is p rest)
    (there bytes (program_offset bytes) (32 * program_count bytes) (rw (r.program_offset, r.program_count) e.programs))
    (there bytes (section_offset bytes) (40 * section_count bytes) (rw (r.section_offset, r.section_count) e.sections)))
    (ap (segment_refusal bytes) (loads_there parts bytes good.are r short) ∙ segments_none bytes (base_of parts) parts.segments e.contents good.fit good.apart)
    (ap (λ (hs : List ProgramHeader). index_refusal hs (file_segments bytes)) (indexes_there parts bytes good.are r short)
    ∙ ap (index_refusal (index_headers (has_index parts) (index_place parts bytes) parts.index.0 parts.index.1)) segments
    ∙ index_none (has_index parts) (index_place parts bytes) parts.index.0 parts.index.1 (segments_of_parts parts.segments) good.index)
    (ap (tables_refusal bytes) (tables_are parts bytes few r short) ∙ tables_none bytes (table_head parts) (strings_head parts) e.table e.strings)
    (ap (λ (ss : List Segment). size_refusal ss (symbol_count (file_table bytes))) segments
    ∙ ap (size_refusal (segments_of_parts parts.segments)) (symbols_counted parts bytes few r short)
    ∙ sizes_none (segments_of_parts parts.segments) (length (symbols_of_parts parts)) good.memory good.count good.symbols)
    (ap count_refusal functions ∙ count_none (own_functions parts) good.functions)
    (ap (entry_refusal (entry_field bytes)) functions ∙ entry_none (entry_field bytes) parts.entry (own_functions parts) r.entry good.entry)

accepted : (o : Option ImageFault) (x : Image) → o ≡ None → unless_refused o x ≡ Ok x
accepted o x h = rw h refl

image_there : (parts : ImageParts) → AreGood parts → (image : Image) × (image_of (layout_of parts) ≡ Ok image)
unfolding image_of layout_of
image_there parts good =
    let limits = not_long parts good.short in
    let r = file_reads parts good.are limits.0 limits.1 in
    (_, accepted _ _ (nothing_refused parts (layout_of parts) (shape (plan_of parts)) good r limits.0 limits.1))

pub law_of_their_image : GoodPartsMeanTheirImage
law_of_their_image parts good =
    let found = image_there parts good in
    found.1 ∙ ap (λ (x : Image). Ok x) (stands parts found.0 good.are good.short found.1)

written_step : (long : Bool) (bytes : List ℕ) (image : Image) (r : Result Image ImageFault) → long ≡ false → r ≡ Ok image → cond long (Err TooLarge) (bytes_if_image bytes (is_read r)) ≡ Ok bytes
written_step long bytes image r h g = rw (h, g) refl

pub law_of_good_parts : GoodPartsAreRead
unfolding write_result
law_of_good_parts parts good = written_step (is_too_long parts) (layout_of parts) (image_of_parts parts) (image_of (layout_of parts)) good.short (law_of_their_image parts good)
