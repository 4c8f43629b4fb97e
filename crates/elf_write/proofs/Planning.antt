-- The pieces of a file, and how long they are.
use Rattle.elf_write.proofs.Pieces.{program}
use Rattle.std.proofs.Common.{◌≡◌, ℕ, ◌+◌, ◌*◌, ◌^◌, ◌<◌, ◌≤◌, Bool, true, false, cond, nat_lt, nat_le, List, [], ◌∷◌, ◌++◌, length, Some, None, Ok, Err, refl, ap, ◌∙◌, length-append, arith}
use Rattle.std.proofs.lemmas.Bool.Decides.{nat_tests}
use Rattle.elf_image.specs.Image.{image_of}
use Rattle.elf_image.specs.declared.fault.ImageFault.{ImageFault}
use Rattle.elf_image.specs.declared.fault.ImageFault.TheVariants.{TooLarge}
use Rattle.eh_word.specs.Bytes.{zeros}
use Rattle.elf_write.specs.Layout.{word, align_to_word, bit, contents, program_bytes, program_rows, file_place, index_row, has_index, base_of, segment_names, last_names, section_names, symbol_rows, strings_of, table_of, Plan, file_end, plan_of, layout_of, join_pieces, is_too_long, is_read, bytes_if_image, write_result}
use Rattle.elf_write.specs.declared.parts.OwnSegment.{OwnSegment}
use Rattle.elf_write.specs.declared.parts.ImageParts.{ImageParts}
use Rattle.elf_write.proofs.Layouts.{length_zeros, length_rows}
use Rattle.elf_image.specs.declared.limits.TheConstants.{SEGMENT_LIMIT}

pub length_program : (kind offset address file_size memory_size flags : ℕ) → length (program_bytes (program kind offset address file_size memory_size flags)) ≡ 32
unfolding program_bytes word
length_program kind offset address file_size memory_size flags = refl

pub length_program_rows : (at : ℕ) (xs : List OwnSegment) → length (program_rows at xs) ≡ 32 * length xs
length_program_rows at [] = refl
length_program_rows at (s ∷ xs) =
    let rest = length_program_rows (align_to_word at + length s.bytes) xs in
    let all = length-append (program_bytes (program 1 (align_to_word at) s.start (length s.bytes) s.size (4 + bit s.write 2 + bit s.exec 1))) (program_rows (align_to_word at + length s.bytes) xs) in
    omega (arith, all, rest, length_program 1 (align_to_word at) s.start (length s.bytes) s.size (4 + bit s.write 2 + bit s.exec 1))

index_step : (b : Bool) (row : List ℕ) → length row ≡ 32 → length (cond b row []) ≡ 32 * bit b 1
index_step true row h = h
index_step false row h = refl

length_index : (at : ℕ) (parts : ImageParts) → length (index_row at parts) ≡ 32 * bit (has_index parts) 1
length_index at parts = index_step (has_index parts) _ (length_program 0x70000001 (file_place parts.index.0 parts.index.1 at parts.segments) parts.index.0 parts.index.1 parts.index.1 4)

pub length_programs : (at : ℕ) (parts : ImageParts) → 52 + length (program_rows at parts.segments ++ index_row at parts) ≡ base_of parts
length_programs at parts =
    omega (arith, length-append (program_rows at parts.segments) (index_row at parts), length_program_rows at parts.segments, length_index at parts)

bit_most : (b : Bool) → bit b 1 ≤ 1
bit_most true = omega arith
bit_most false = omega arith

pub few_programs : (at : ℕ) (parts : ImageParts) → length parts.segments ≤ SEGMENT_LIMIT → length (program_rows at parts.segments ++ index_row at parts) < 2 ^ 20
few_programs at parts h = omega (arith, length_programs at parts, bit_most (has_index parts))

length_last : length last_names ≡ 26
unfolding last_names
length_last = refl

pub names_named : (xs : List OwnSegment) → 26 ≤ length (section_names xs)
names_named xs = omega (arith, length-append (segment_names 0 xs) last_names, length_last)

-- ---- pieces that make the file too long

pub long_contents : (parts : ImageParts) → 2 ^ 32 ≤ base_of parts + length (contents (base_of parts) parts.segments) → 2 ^ 32 ≤ file_end (plan_of parts)
unfolding plan_of
long_contents parts h = omega (arith, length_programs (base_of parts) parts)

pub long_strings : (parts : ImageParts) → 2 ^ 32 ≤ length (strings_of (table_of parts)) → 2 ^ 32 ≤ file_end (plan_of parts)
unfolding plan_of
long_strings parts h = omega arith

pub long_table : (parts : ImageParts) → 2 ^ 28 ≤ length (table_of parts) → 2 ^ 32 ≤ file_end (plan_of parts)
unfolding plan_of
long_table parts h = omega (arith, length-append (zeros 16) (symbol_rows 1 (table_of parts)), length_zeros 16, length_rows 1 (table_of parts))

-- ---- what is written

test_gt : (x y : ℕ) → x < y → nat_lt x y ≡ true
test_gt x y h = grind (arith, nat_tests)

test_le : (x y : ℕ) → x ≤ y → nat_lt y x ≡ false
test_le x y h = grind (arith, nat_tests)

test_most : (x y : ℕ) → x ≤ y → nat_le x y ≡ true
test_most x y h = grind (arith, nat_tests)

test_less : (x y : ℕ) → y < x → nat_le x y ≡ false
test_less x y h = grind (arith, nat_tests)

pub many_segments : (parts : ImageParts) → SEGMENT_LIMIT < length parts.segments → write_result parts ≡ Err TooLarge
unfolding write_result is_too_long
many_segments parts h = rw (test_gt SEGMENT_LIMIT (length parts.segments) h) refl

pub long_file : (parts : ImageParts) → length parts.segments ≤ SEGMENT_LIMIT → 2 ^ 32 ≤ file_end (plan_of parts) → write_result parts ≡ Err TooLarge
unfolding write_result is_too_long
long_file parts few h = rw (test_le (length parts.segments) SEGMENT_LIMIT few, test_most (2 ^ 32) (file_end (plan_of parts)) h) refl

pub written_is : (parts : ImageParts) → length parts.segments ≤ SEGMENT_LIMIT → file_end (plan_of parts) < 2 ^ 32 → write_result parts ≡ bytes_if_image (layout_of parts) (is_read (image_of (layout_of parts)))
unfolding write_result is_too_long
written_is parts few h = rw (test_le (length parts.segments) SEGMENT_LIMIT few, test_less (2 ^ 32) (file_end (plan_of parts)) h) refl

layout_is : (parts : ImageParts) (p : Plan) (bytes : List ℕ) → p ≡ plan_of parts → bytes ≡ join_pieces p → bytes ≡ layout_of parts
unfolding layout_of
layout_is parts p bytes e h = h ∙ ap (λ (q : Plan). join_pieces q) e

pub written_bytes : (parts : ImageParts) (p : Plan) (bytes : List ℕ) → length parts.segments ≤ SEGMENT_LIMIT → p ≡ plan_of parts → file_end p < 2 ^ 32 → bytes ≡ join_pieces p
    → is_read (image_of bytes) ≡ None → write_result parts ≡ Ok bytes
written_bytes parts p bytes few e short h read =
    let whole = layout_is parts p bytes e h in
    written_is parts few (rw e at short) ∙ rw (← whole) (rw read refl)

pub written_fault : (parts : ImageParts) (p : Plan) (bytes : List ℕ) (fault : ImageFault) → length parts.segments ≤ SEGMENT_LIMIT → p ≡ plan_of parts → file_end p < 2 ^ 32 → bytes ≡ join_pieces p
    → is_read (image_of bytes) ≡ Some fault → write_result parts ≡ Err fault
written_fault parts p bytes fault few e short h read =
    let whole = layout_is parts p bytes e h in
    written_is parts few (rw e at short) ∙ rw (← whole) (rw read refl)

pub ruleset writing = (many_segments, long_file, written_bytes, written_fault)
