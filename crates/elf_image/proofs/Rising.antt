-- The segments of headers in rising order that don't overlap.
use Rattle.std.proofs.Common.{◌≡◌, ℕ, ◌≤◌, Bool, true, false, ◌||◌, nat_lt, List, [], ◌∷◌, length, map, refl, length-take, arith}
use Rattle.std.proofs.lemmas.Bool.Decides.{nat_tests}
use Rattle.std.specs.List.{list_any}
use Rattle.std.specs.Map.{values_of}
use Rattle.elf_image.specs.Format.{part}
use Rattle.elf_image.specs.Segments.{memory_end, is_out_of_range, segment_of, RiseFrom}
use Rattle.elf_image.specs.Sorted.{overlap_from, AreKeyed}
use Rattle.elf_image.specs.declared.format.ProgramHeader.{ProgramHeader}

both_false : (a b : Bool) → (a || b) ≡ false → (a ≡ false) × (b ≡ false)
both_false true b h = absurd cc
both_false false b h = (refl, h)

in_range : (h : ProgramHeader) → is_out_of_range h ≡ false → (memory_end h ≤ 0x30000000) × (h.file_size ≤ h.memory_size)
in_range h e =
    let parts = both_false (nat_lt 0x30000000 (memory_end h)) (nat_lt h.memory_size h.file_size) e in
    (grind (arith, nat_tests, parts.0), grind (arith, nat_tests, parts.1))

above : (a low : ℕ) → nat_lt a low ≡ false → low ≤ a
above a low h = grind (arith, nat_tests)

part_fits : (bytes : List ℕ) (at size : ℕ) → length (part bytes at size) ≤ size
part_fits bytes at size = rw length-take (omega arith)

pub rise : (bytes : List ℕ) (low : ℕ) (es : List (ℕ × ProgramHeader)) → low ≤ 0x30000000 → AreKeyed es
    → overlap_from low (values_of es) ≡ false → list_any is_out_of_range (values_of es) ≡ false → RiseFrom low (map (λ (e : ℕ × ProgramHeader). segment_of bytes e.1) es)
unfolding segment_of
rise bytes low [] fits keyed apart inside = fits
rise bytes low (e ∷ es) fits keyed apart inside =
    let p = both_false (nat_lt e.1.address low) (overlap_from (memory_end e.1) (values_of es)) apart in
    let q = both_false (is_out_of_range e.1) (list_any is_out_of_range (values_of es)) inside in
    let r = in_range e.1 q.0 in
    let short = part_fits bytes e.1.offset e.1.file_size in
    (above e.1.address low p.0, keyed.1, omega arith, rise bytes (memory_end e.1) es r.0 keyed.2 p.1 q.1)
