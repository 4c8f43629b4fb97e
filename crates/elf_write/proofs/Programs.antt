-- The program headers, read back.
use Rattle.std.proofs.Common.{◌≡◌, ℕ, suc, ◌+◌, ◌*◌, ◌≤◌, Bool, true, false, cond, Option, Some, None, List, [], ◌∷◌, ◌++◌, length, drop, map, refl, sym, ap, ◌∙◌, arith, append_assoc, append-nil}
use Rattle.std.proofs.lemmas.List.Elements.{filter-append}
use Rattle.std.specs.List.{filter, find, range_with_len}
use Rattle.elf_image.specs.Index.{is_index, index_of, index_bytes_in}
use Rattle.elf_image.specs.Segments.{Segment, is_load}
use Rattle.byteorder.specs.Endian.{little_number}
use Rattle.elf_image.specs.Format.{program_header}
use Rattle.elf_image.specs.declared.format.ProgramHeader.{ProgramHeader}
use Rattle.elf_write.specs.Layout.{word, align_to_word, bit, contents, program_bytes, program_rows}
use Rattle.elf_write.specs.Parts.{SegmentsFit, IsWord, holds_range, range_in}
use Rattle.elf_write.specs.declared.parts.OwnSegment.{OwnSegment}
use Rattle.elf_write.proofs.Layouts.{contents_length}
use Rattle.elf_write.proofs.Pieces.{program, word_back, field_is, after}
use Rattle.elf_write.proofs.Planning.{length_program}

abbrev pub header : ℕ → ℕ → ℕ → ℕ → ℕ → ℕ → ProgramHeader
header kind offset address file_size memory_size flags = program kind offset address file_size memory_size flags

same_header : (h : ProgramHeader) (kind offset address file_size memory_size flags : ℕ) → h.kind ≡ kind → h.offset ≡ offset → h.address ≡ address → h.file_size ≡ file_size
    → h.memory_size ≡ memory_size → h.flags ≡ flags → h ≡ header kind offset address file_size memory_size flags
same_header h kind offset address file_size memory_size flags a b c d e f = rw (sym a, sym b, sym c, sym d, sym e, sym f) refl

-- a row that stands at a place
pub header_back : (bytes rest : List ℕ) (at kind offset address file_size memory_size flags : ℕ) → IsWord kind → IsWord offset → IsWord address → IsWord file_size → IsWord memory_size
    → IsWord flags → drop at bytes ≡ program_bytes (program kind offset address file_size memory_size flags) ++ rest
    → program_header bytes at ≡ header kind offset address file_size memory_size flags
unfolding program_header program_bytes word
header_back bytes rest at kind offset address file_size memory_size flags k o a f m g h =
    let row = program_bytes (program kind offset address file_size memory_size flags) ++ rest in
    let six : List ℕ = word flags ++ (word 4 ++ rest) in
    let five : List ℕ = word memory_size ++ six in
    let four : List ℕ = word file_size ++ five in
    let three : List ℕ = word address ++ (word address ++ four) in
    same_header (program_header bytes at) kind offset address file_size memory_size flags
    (ap (λ (xs : List ℕ). little_number 4 xs) h ∙ word_back kind (word offset ++ three) k)
    (field_is 4 4 at offset bytes row h (word_back offset three o))
    (field_is 4 8 at address bytes row h (word_back address (word address ++ four) a))
    (field_is 4 16 at file_size bytes row h (word_back file_size five f))
    (field_is 4 20 at memory_size bytes row h (word_back memory_size six m))
    (field_is 4 24 at flags bytes row h (word_back flags (word 4 ++ rest) g))

abbrev pub header_of : ℕ → OwnSegment → ProgramHeader
header_of at s = header 1 (align_to_word at) s.start (length s.bytes) s.size (4 + bit s.write 2 + bit s.exec 1)

abbrev pub headers_of : ℕ → List OwnSegment → List ProgramHeader
headers_of at [] = []
headers_of at (s ∷ more) = header_of at s ∷ headers_of (align_to_word at + length s.bytes) more

bit_small : (b : Bool) (n : ℕ) → bit b n ≤ n
bit_small true n = omega arith
bit_small false n = omega arith

flags_fit : (s : OwnSegment) → IsWord (4 + bit s.write 2 + bit s.exec 1)
flags_fit s = omega (arith, bit_small s.write 2, bit_small s.exec 1)

-- where the bytes of the first segment and of the others stand
pub first_place : (at : ℕ) (s : OwnSegment) (xs : List OwnSegment)
    → at + length (contents at (s ∷ xs)) ≡ (align_to_word at + length s.bytes) + length (contents (align_to_word at + length s.bytes) xs)
first_place at s xs = contents_length at (s ∷ xs) 0 s (omega arith)

-- the rows of the segments, and then others
pub headers_back : (bytes rest : List ℕ) (others : List ProgramHeader) (off k at m : ℕ) (xs : List OwnSegment) → SegmentsFit xs → IsWord (at + length (contents at xs))
    → drop (off + 32 * k) bytes ≡ program_rows at xs ++ rest
    → map (λ i. program_header bytes (off + 32 * i)) (range_with_len (k + length xs) m) ≡ others
    → map (λ i. program_header bytes (off + 32 * i)) (range_with_len k (length xs + m)) ≡ headers_of at xs ++ others
headers_back bytes rest others off k at m [] fit inside h last =
    let a : k + 0 ≡ k = omega arith in
    let b : 0 + m ≡ m = omega arith in
    rw b (rw a at last)
headers_back bytes rest others off k at m (s ∷ xs) fit inside h last =
    let next = align_to_word at + length s.bytes in
    let row = program_bytes (program 1 (align_to_word at) s.start (length s.bytes) s.size (4 + bit s.write 2 + bit s.exec 1)) in
    let place = first_place at s xs in
    let whole : drop (off + 32 * k) bytes ≡ row ++ (program_rows next xs ++ rest) = h ∙ append_assoc row (program_rows next xs) rest in
    let one : program_header bytes (off + 32 * k) ≡ header_of at s =
    header_back bytes (program_rows next xs ++ rest) (off + 32 * k) 1 (align_to_word at) s.start (length s.bytes) s.size (4 + bit s.write 2 + bit s.exec 1)
    (omega arith) (omega (arith, place, inside)) fit.0 (omega (arith, place, inside)) fit.1 (flags_fit s) whole in
    let rows = length_program 1 (align_to_word at) s.start (length s.bytes) s.size (4 + bit s.write 2 + bit s.exec 1) in
    let later : drop (off + 32 * (k + 1)) bytes ≡ program_rows next xs ++ rest =
    after (off + 32 * k) (off + 32 * (k + 1)) bytes row (program_rows next xs ++ rest) whole (omega (arith, rows)) in
    let e : k + suc (length xs) ≡ k + 1 + length xs = omega arith in
    let f : suc (length xs) + m ≡ suc (length xs + m) = omega arith in
    let more = headers_back bytes rest others off (k + 1) next m xs fit.2 (omega (arith, place, inside)) later (rw e at last) in
    rw (f, one, more) refl

-- ---- the index header, whose place is not looked at

index_header : (bytes rest : List ℕ) (at offset a z : ℕ) → IsWord a → IsWord z → drop at bytes ≡ program_bytes (program 0x70000001 offset a z z 4) ++ rest
    → program_header bytes at ≡ header 0x70000001 (little_number 4 (drop (at + 4) bytes)) a z z 4
unfolding program_header program_bytes word
index_header bytes rest at offset a z fa fz h =
    let row = program_bytes (program 0x70000001 offset a z z 4) ++ rest in
    let six : List ℕ = word 4 ++ (word 4 ++ rest) in
    let five : List ℕ = word z ++ six in
    let four : List ℕ = word z ++ five in
    let two : List ℕ = word offset ++ (word a ++ (word a ++ four)) in
    same_header (program_header bytes at) 0x70000001 (little_number 4 (drop (at + 4) bytes)) a z z 4
    (ap (λ (xs : List ℕ). little_number 4 xs) h ∙ word_back 0x70000001 two (omega arith))
    refl
    (field_is 4 8 at a bytes row h (word_back a (word a ++ four) fa))
    (field_is 4 16 at z bytes row h (word_back z five fz))
    (field_is 4 20 at z bytes row h (word_back z six fz))
    (field_is 4 24 at 4 bytes row h (word_back 4 (word 4 ++ rest) (omega arith)))

abbrev pub index_headers : Bool → ℕ → ℕ → ℕ → List ProgramHeader
index_headers b offset a z = cond b (header 0x70000001 offset a z z 4 ∷ []) []

pub index_back : (b : Bool) (bytes rest : List ℕ) (off k offset a z : ℕ) → IsWord a → IsWord z → drop (off + 32 * k) bytes ≡ cond b (program_bytes (program 0x70000001 offset a z z 4)) [] ++ rest
    → map (λ i. program_header bytes (off + 32 * i)) (range_with_len k (bit b 1)) ≡ index_headers b (little_number 4 (drop (off + 32 * k + 4) bytes)) a z
index_back true bytes rest off k offset a z fa fz h = ap (λ (x : ProgramHeader). x ∷ []) (index_header bytes rest (off + 32 * k) offset a z fa fz h)
index_back false bytes rest off k offset a z fa fz h = refl

-- ---- which are to load, and which are of an index

no_indexes : (at : ℕ) (xs : List OwnSegment) → filter is_index (headers_of at xs) ≡ []
no_indexes at [] = refl
no_indexes at (s ∷ xs) = no_indexes (align_to_word at + length s.bytes) xs

all_indexes : (b : Bool) (offset a z : ℕ) → filter is_index (index_headers b offset a z) ≡ index_headers b offset a z
all_indexes true offset a z = refl
all_indexes false offset a z = refl

no_loads : (b : Bool) (offset a z : ℕ) → filter is_load (index_headers b offset a z) ≡ []
no_loads true offset a z = refl
no_loads false offset a z = refl

pub indexes_back : (b : Bool) (at offset a z : ℕ) (xs : List OwnSegment) → filter is_index (headers_of at xs ++ index_headers b offset a z) ≡ index_headers b offset a z
indexes_back b at offset a z xs = filter-append is_index (headers_of at xs) (index_headers b offset a z) ∙ rw (no_indexes at xs) (all_indexes b offset a z)

pub loads_are : (b : Bool) (at offset a z : ℕ) (xs : List OwnSegment) → filter is_load (headers_of at xs ++ index_headers b offset a z) ≡ filter is_load (headers_of at xs)
loads_are b at offset a z xs = filter-append is_load (headers_of at xs) (index_headers b offset a z) ∙ rw (no_loads b offset a z) (append-nil (filter is_load (headers_of at xs)))

-- ---- the range of the index

range_back : (a z offset : ℕ) (o : Option Segment) → index_bytes_in (header 0x70000001 offset a z z 4) o ≡ range_in a z o
range_back a z offset None = refl
range_back a z offset (Some s) = refl

pub index_range : (b : Bool) (a z offset : ℕ) (segments : List Segment)
    → index_of (index_headers b offset a z) segments ≡ cond b (a, range_in a z (find (holds_range a z) segments)) (0, [])
unfolding index_of
index_range true a z offset segments = ap (λ (xs : List ℕ). (a, xs)) (range_back a z offset (find (holds_range a z) segments))
index_range false a z offset segments = refl
