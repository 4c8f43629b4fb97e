-- What the reader finds of the file that is laid out for parts.
use Rattle.std.proofs.Common.{◌≡◌, ℕ, ◌+◌, ◌-◌, ◌*◌, ◌/◌, ◌%◌, ◌^◌, ◌<◌, ◌≤◌, Bool, true, false, ◌||◌, nat_lt, nat_le, List, [], ◌∷◌, ◌++◌, length, take, drop, map, filter, Option, Some, refl, sym, ap, ◌∙◌, arith, append_assoc, append-nil}
use Rattle.std.proofs.lemmas.Bool.Decides.{nat_tests}
use Rattle.std.specs.List.{range_with_len}
use Rattle.byteorder.specs.Endian.{little_number}
use Rattle.elf_image.specs.Format.{entry_field, program_offset, section_offset, program_count, section_count, program_header, section_header, program_headers}
use Rattle.elf_image.specs.Segments.{Segment, is_load, segments_of}
use Rattle.elf_image.specs.Index.{is_index, index_of}
use Rattle.elf_image.specs.Symbols.{symbols_of, tables_of}
use Rattle.elf_image.specs.Image.{file_indexes, file_segments, file_tables, file_symbols, table_in, strings_in}
use Rattle.elf_image.specs.declared.format.ProgramHeader.{ProgramHeader}
use Rattle.elf_image.specs.declared.format.SectionHeader.{SectionHeader}
use Rattle.eh_word.specs.Bytes.{zeros}
use Rattle.elf_write.specs.Layout.{word, half, align_to_word, padding, bit, contents, program_rows, file_place, index_row, has_index, base_of, section_bytes, strings_of, table_of, Plan, contents_end, table_at, strings_at, names_at, names_end, sections_at, file_end, identity, header_sizes, file_header, sections_of, join_pieces, plan_of, layout_of, is_too_long}
use Rattle.elf_write.specs.Parts.{IsWord, AreParts, segments_of_parts, index_of_parts, symbols_of_parts}
use Rattle.elf_write.specs.declared.parts.ImageParts.{ImageParts}
use Rattle.elf_write.proofs.Layouts.{length_zeros}
use Rattle.elf_write.proofs.Planning.{length_programs, length_program_rows}
use Rattle.elf_write.proofs.Pieces.{section, word_back, half_back, after, piece_is}
use Rattle.elf_write.proofs.Programs.{headers_of, headers_back, index_headers, index_back, indexes_back, loads_are, index_range}
use Rattle.elf_write.proofs.Sections.{head, sections_back, tables_back}
use Rattle.elf_write.proofs.Table.{table_back}
use Rattle.elf_write.proofs.Loads.{loads_back}
use Rattle.elf_image.specs.declared.limits.TheConstants.{SEGMENT_LIMIT}

-- ---- the shape of the file

regroup : (a b c d e f g h i : List ℕ) → ((((((((a ++ b) ++ c) ++ d) ++ e) ++ f) ++ g) ++ h) ++ i) ≡ a ++ (b ++ (c ++ (d ++ (e ++ (f ++ (g ++ (h ++ i)))))))
regroup a b c d e f g h i = simp append_assoc

regroup_sections : (a b c d e : List ℕ) → (((a ++ b) ++ c) ++ d) ++ e ≡ a ++ (b ++ (c ++ (d ++ (e ++ []))))
regroup_sections a b c d e = simp (append_assoc, append-nil)

-- what stands after the file header
abbrev pub after_header : Plan → List ℕ
after_header p =
    p.programs ++ (p.contents ++ (padding (contents_end p) ++ (p.table ++ (p.strings ++ (p.names ++ (padding (names_end p) ++ sections_of p))))))

pub shape : (p : Plan) → join_pieces p ≡ file_header p ++ after_header p
unfolding join_pieces
shape p = regroup (file_header p) p.programs p.contents (padding (contents_end p)) p.table p.strings p.names (padding (names_end p)) (sections_of p)

-- ---- the file header

header_ends : (p : Plan) (rest : List ℕ) → drop 52 (file_header p ++ rest) ≡ rest
unfolding file_header identity header_sizes word half zeros
header_ends p rest = refl

entry_is : (p : Plan) (rest : List ℕ) → IsWord (p.entry - p.entry % 2 + 1) → entry_field (file_header p ++ rest) ≡ p.entry - p.entry % 2 + 1
unfolding file_header identity header_sizes word half zeros
entry_is p rest h = word_back (p.entry - p.entry % 2 + 1) (word 52 ++ (word (sections_at p) ++ (word 0x05000000 ++ (header_sizes p ++ rest)))) h

program_offset_is : (p : Plan) (rest : List ℕ) → program_offset (file_header p ++ rest) ≡ 52
unfolding file_header identity header_sizes word half zeros
program_offset_is p rest = word_back 52 (word (sections_at p) ++ (word 0x05000000 ++ (header_sizes p ++ rest))) (omega arith)

section_offset_is : (p : Plan) (rest : List ℕ) → IsWord (sections_at p) → section_offset (file_header p ++ rest) ≡ sections_at p
unfolding file_header identity header_sizes word half zeros
section_offset_is p rest h = word_back (sections_at p) (word 0x05000000 ++ (header_sizes p ++ rest)) h

program_count_is : (p : Plan) (rest : List ℕ) → length p.programs / 32 < 2 ^ 16 → program_count (file_header p ++ rest) ≡ length p.programs / 32
unfolding file_header identity header_sizes word half zeros
program_count_is p rest h = half_back (length p.programs / 32) (half 40 ++ (half (p.segment_total + 4) ++ (half (p.segment_total + 3) ++ rest))) h

section_count_is : (p : Plan) (rest : List ℕ) → p.segment_total + 4 < 2 ^ 16 → section_count (file_header p ++ rest) ≡ p.segment_total + 4
unfolding file_header identity header_sizes word half zeros
section_count_is p rest h = half_back (p.segment_total + 4) (half (p.segment_total + 3) ++ rest) h

-- what the reader finds of the pieces of a plan
pub record Reads (p : Plan) (bytes : List ℕ) : Type 0 where
  pub entry : entry_field bytes ≡ p.entry - p.entry % 2 + 1
  pub program_offset : program_offset bytes ≡ 52
  pub program_count : program_count bytes ≡ length p.programs / 32
  pub section_offset : section_offset bytes ≡ sections_at p
  pub section_count : section_count bytes ≡ p.segment_total + 4
  pub programs : drop 52 bytes ≡ p.programs ++ drop (52 + length p.programs) bytes
  pub contents : drop (52 + length p.programs) bytes ≡ p.contents ++ drop (contents_end p) bytes
  pub table : drop (table_at p) bytes ≡ p.table ++ drop (strings_at p) bytes
  pub strings : drop (strings_at p) bytes ≡ p.strings ++ drop (names_at p) bytes
  pub sections : drop (sections_at p) bytes ≡ sections_of p

-- a piece, and where the next one stands
step : (n m : ℕ) (bytes piece rest : List ℕ) → drop n bytes ≡ piece ++ rest → m ≡ n + length piece → (drop n bytes ≡ piece ++ drop m bytes) × (drop m bytes ≡ rest)
step n m bytes piece rest h e = let later = after n m bytes piece rest h e in (rw later h, later)

pub reads : (p : Plan) (bytes : List ℕ) → IsWord p.entry → IsWord (file_end p) → p.segment_total ≤ SEGMENT_LIMIT → length p.programs / 32 < 2 ^ 16 → bytes ≡ file_header p ++ after_header p → Reads p bytes
reads p bytes entry short few programs e =
    let six : List ℕ = padding (names_end p) ++ sections_of p in
    let five : List ℕ = p.names ++ six in
    let four : List ℕ = p.strings ++ five in
    let three : List ℕ = p.table ++ four in
    let two : List ℕ = padding (contents_end p) ++ three in
    let one : List ℕ = p.contents ++ two in
    let start : drop 52 bytes ≡ p.programs ++ one = rw e (header_ends p (after_header p)) in
    let at_contents = step 52 (52 + length p.programs) bytes p.programs one start refl in
    let at_gap = step (52 + length p.programs) (contents_end p) bytes p.contents two at_contents.1 refl in
    let at_table = step (contents_end p) (table_at p) bytes (padding (contents_end p)) three at_gap.1 (omega (arith, length_zeros (align_to_word (contents_end p) - contents_end p))) in
    let at_strings = step (table_at p) (strings_at p) bytes p.table four at_table.1 refl in
    let at_names = step (strings_at p) (names_at p) bytes p.strings five at_strings.1 refl in
    let at_end = step (names_at p) (names_end p) bytes p.names six at_names.1 refl in
    let at_sections = step (names_end p) (sections_at p) bytes (padding (names_end p)) (sections_of p) at_end.1 (omega (arith, length_zeros (align_to_word (names_end p) - names_end p))) in
    record {
      entry = rw e (entry_is p (after_header p) (omega arith));
      program_offset = rw e (program_offset_is p (after_header p));
      program_count = rw e (program_count_is p (after_header p) programs);
      section_offset = rw e (section_offset_is p (after_header p) (omega arith));
      section_count = rw e (section_count_is p (after_header p) (omega arith));
      programs = at_contents.0;
      contents = at_gap.0;
      table = at_strings.0;
      strings = at_names.0;
      sections = at_sections.1;
    }

-- ---- the file of parts

pub both_false : (a b : Bool) → (a || b) ≡ false → (a ≡ false) × (b ≡ false)
both_false true b h = absurd cc
both_false false b h = (refl, h)

pub at_most : (a b : ℕ) → nat_lt a b ≡ false → b ≤ a
at_most a b h = grind (arith, nat_tests)

pub below : (a b : ℕ) → nat_le a b ≡ false → b < a
below a b h = grind (arith, nat_tests)

pub not_long : (parts : ImageParts) → is_too_long parts ≡ false → (length parts.segments ≤ SEGMENT_LIMIT) × (file_end (plan_of parts) < 2 ^ 32)
unfolding is_too_long
not_long parts h =
    let both = both_false (nat_lt SEGMENT_LIMIT (length parts.segments)) (nat_le (2 ^ 32) (file_end (plan_of parts))) h in
    (at_most SEGMENT_LIMIT (length parts.segments) both.0, below (2 ^ 32) (file_end (plan_of parts)) both.1)

bit_one : (b : Bool) → bit b 1 ≤ 1
bit_one true = omega arith
bit_one false = omega arith

pub program_number : (parts : ImageParts) → length (plan_of parts).programs / 32 ≡ length parts.segments + bit (has_index parts) 1
unfolding plan_of
program_number parts = omega (arith, length_programs (base_of parts) parts)

pub file_reads : (parts : ImageParts) → AreParts parts → length parts.segments ≤ SEGMENT_LIMIT → IsWord (file_end (plan_of parts)) → Reads (plan_of parts) (layout_of parts)
unfolding layout_of plan_of
file_reads parts are few short =
    reads (plan_of parts) (join_pieces (plan_of parts)) are.entry short few (omega (arith, program_number parts, bit_one (has_index parts))) (shape (plan_of parts))

pub contents_fit : (parts : ImageParts) → IsWord (file_end (plan_of parts)) → IsWord (base_of parts + length (contents (base_of parts) parts.segments))
unfolding plan_of
contents_fit parts short = omega (arith, length_programs (base_of parts) parts)

abbrev pub index_place : ImageParts → List ℕ → ℕ
index_place parts bytes = little_number 4 (drop (52 + 32 * (0 + length parts.segments) + 4) bytes)

pub programs_back : (parts : ImageParts) (bytes : List ℕ) → AreParts parts → Reads (plan_of parts) bytes → IsWord (file_end (plan_of parts))
    → program_headers bytes
    ≡ headers_of (base_of parts) parts.segments ++ index_headers (has_index parts) (index_place parts bytes) parts.index.0 parts.index.1
unfolding plan_of
programs_back parts bytes are r short =
    let base = base_of parts in
    let rows : List ℕ = program_rows base parts.segments in
    let row : List ℕ = index_row base parts in
    let rest : List ℕ = drop (52 + length (rows ++ row)) bytes in
    let start : drop (52 + 32 * 0) bytes ≡ rows ++ (row ++ rest) = r.programs ∙ append_assoc rows row rest in
    let last : drop (52 + 32 * (0 + length parts.segments)) bytes ≡ row ++ rest =
    after (52 + 32 * 0) (52 + 32 * (0 + length parts.segments)) bytes rows (row ++ rest) start (omega (arith, length_program_rows base parts.segments)) in
    ap (λ (o : ℕ). map (λ i. program_header bytes (o + 32 * i)) (range_with_len 0 (program_count bytes))) r.program_offset
    ∙ ap (λ (n : ℕ). map (λ i. program_header bytes (52 + 32 * i)) (range_with_len 0 n)) (r.program_count ∙ program_number parts)
    ∙ headers_back bytes (row ++ rest) (index_headers (has_index parts) (index_place parts bytes) parts.index.0 parts.index.1) 52 0 base (bit (has_index parts) 1) parts.segments
    are.segments (contents_fit parts short) start
    (index_back (has_index parts) bytes rest 52 (0 + length parts.segments) (file_place parts.index.0 parts.index.1 base parts.segments) parts.index.0 parts.index.1
    are.index_start are.index_size last)

pub segments_back : (parts : ImageParts) (bytes : List ℕ) → AreParts parts → Reads (plan_of parts) bytes → IsWord (file_end (plan_of parts)) → file_segments bytes ≡ segments_of_parts parts.segments
unfolding plan_of
segments_back parts bytes are r short =
    let base = base_of parts in
    let here : 52 + length (program_rows base parts.segments ++ index_row base parts) ≡ base = length_programs base parts in
    let bytes_there : drop base bytes ≡ contents base parts.segments ++ drop (contents_end (plan_of parts)) bytes =
    ap (λ (n : ℕ). drop n bytes) (sym here) ∙ r.contents in
    ap (λ (hs : List ProgramHeader). segments_of bytes (filter is_load hs)) (programs_back parts bytes are r short)
    ∙ ap (λ (hs : List ProgramHeader). segments_of bytes hs) (loads_are (has_index parts) base (index_place parts bytes) parts.index.0 parts.index.1 parts.segments)
    ∙ loads_back bytes (drop (contents_end (plan_of parts)) bytes) base parts.segments bytes_there

range_is : (parts : ImageParts) (bytes : List ℕ) (segments : List Segment) → AreParts parts → Reads (plan_of parts) bytes → IsWord (file_end (plan_of parts))
    → index_of (file_indexes bytes) segments ≡ index_of_parts parts segments
unfolding index_of_parts
range_is parts bytes segments are r short =
    ap (λ (hs : List ProgramHeader). index_of (filter is_index hs) segments) (programs_back parts bytes are r short)
    ∙ ap (λ (hs : List ProgramHeader). index_of hs segments) (indexes_back (has_index parts) (base_of parts) (index_place parts bytes) parts.index.0 parts.index.1 parts.segments)
    ∙ index_range (has_index parts) parts.index.0 parts.index.1 (index_place parts bytes) segments

unfoldable pub table_head : ImageParts → SectionHeader
table_head parts = head 2 (table_at (plan_of parts)) (length (plan_of parts).table) (length parts.segments + 2)

unfoldable pub strings_head : ImageParts → SectionHeader
strings_head parts = head 3 (strings_at (plan_of parts)) (length (plan_of parts).strings) 0

pub tables_are : (parts : ImageParts) (bytes : List ℕ) → length parts.segments ≤ SEGMENT_LIMIT → Reads (plan_of parts) bytes → IsWord (file_end (plan_of parts))
    → file_tables bytes ≡ Some (table_head parts, strings_head parts)
unfolding plan_of sections_of table_head strings_head
tables_are parts bytes few r short =
    let p = plan_of parts in
    let base = base_of parts in
    let i = length p.names - 26 in
    let j = length p.names - 18 in
    let n = length p.names - 10 in
    let symbols : List ℕ = section_bytes (section i 2 0 0 (table_at p) (length p.table) (p.segment_total + 2) p.locals 16) in
    let strings : List ℕ = section_bytes (section j 3 0 0 (strings_at p) (length p.strings) 0 0 0) in
    let names : List ℕ = section_bytes (section n 3 0 0 (names_at p) (length p.names) 0 0 0) in
    let there = r.sections ∙ regroup_sections (zeros 40) p.segment_rows symbols strings names in
    let all = sections_back bytes (sections_at p) base (table_at p) (length p.table) (strings_at p) (length p.strings) (names_at p) (length p.names) i j n p.locals parts.segments
    (contents_fit parts short) (omega (arith, short)) (omega (arith, short)) (omega (arith, short)) (omega (arith, short)) (omega (arith, short)) (omega (arith, short)) (omega (arith, few)) there in
    ap (λ (o : ℕ). tables_of (map (λ k. section_header bytes (o + 40 * k)) (range_with_len 0 (section_count bytes)))) r.section_offset
    ∙ ap (λ (c : ℕ). tables_of (map (λ k. section_header bytes (sections_at p + 40 * k)) (range_with_len 0 c))) r.section_count
    ∙ ap (λ (hs : List SectionHeader). tables_of hs) all
    ∙ tables_back base (table_at p) (length p.table) (strings_at p) (length p.strings) parts.segments (head 3 (names_at p) (length p.names) 0 ∷ [])

pub strings_fit : (parts : ImageParts) → IsWord (file_end (plan_of parts)) → IsWord (length (strings_of (table_of parts)))
unfolding plan_of
strings_fit parts short = omega (arith, short)

pub symbols_are : (parts : ImageParts) (bytes : List ℕ) → AreParts parts → length parts.segments ≤ SEGMENT_LIMIT → Reads (plan_of parts) bytes → IsWord (file_end (plan_of parts))
    → file_symbols bytes ≡ symbols_of_parts parts
unfolding plan_of table_head strings_head
symbols_are parts bytes are few r short =
    let p = plan_of parts in
    ap (λ (t : Option (SectionHeader × SectionHeader)). symbols_of (table_in bytes t) (strings_in bytes t)) (tables_are parts bytes few r short)
    ∙ ap (λ (xs : List ℕ). symbols_of xs (take (length p.strings) (drop (strings_at p) bytes))) (piece_is (table_at p) bytes p.table (drop (strings_at p) bytes) r.table)
    ∙ ap (λ (xs : List ℕ). symbols_of p.table xs) (piece_is (strings_at p) bytes p.strings (drop (names_at p) bytes) r.strings)
    ∙ table_back parts are few (strings_fit parts short)

-- ---- the entry

pub even_entry : (parts : ImageParts) (bytes : List ℕ) → Reads (plan_of parts) bytes → entry_field bytes - 1 ≡ parts.entry - parts.entry % 2
unfolding plan_of
even_entry parts bytes r = omega (arith, r.entry)
