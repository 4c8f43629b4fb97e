-- The tables of headers: each row is in the file, and a loop over the rows lists them.
use Rattle.std.proofs.Common.{◌≡◌, ℕ, ◌+◌, ◌*◌, ◌<◌, ◌≤◌, Bool, true, false, cond, nat_eq, nat_lt, List, [], ◌∷◌, ◌++◌, length, map, Option, Some, None, refl, sym, ap, ◌∙◌, arith}
use Rattle.std.proofs.lemmas.Bool.Decides.{nat_tests}
use Rattle.std.specs.List.{range_with_len}
use Rattle.elf_image.specs.Format.{missing, file_header, program_header, section_header, program_offset, program_count, section_offset, section_count}
use Rattle.elf_image.specs.declared.fault.ImageFault.{ImageFault}
use Rattle.elf_image.specs.declared.fault.ImageFault.TheVariants.{Truncated}
use Rattle.elf_image.specs.declared.format.FileHeader.{FileHeader}
use Rattle.elf_image.specs.declared.format.ProgramHeader.{ProgramHeader}
use Rattle.elf_image.specs.declared.format.SectionHeader.{SectionHeader}
use Rattle.elf_image.proofs.Listed.{listed_more}

long_step : (b : Bool) (x y : ℕ) (fault : ImageFault) → nat_lt x y ≡ b → cond b (Some fault) None ≡ None → y ≤ x
long_step true x y fault e h = absurd cc
long_step false x y fault e h = grind (arith, nat_tests)

-- a part that isn't missing and has bytes is there
part_there : (bytes : List ℕ) (at size : ℕ) → 0 < size → missing bytes at size ≡ None → at + size ≤ length bytes
part_there bytes at size some h =
    let e : nat_eq size 0 ≡ false = grind (arith, nat_tests) in
    long_step (nat_lt (length bytes) (at + size)) (length bytes) (at + size) (Truncated (at + size)) refl (rw e at h)

-- one more row
pushed : {X : Type 0} (f : ℕ → X) (n : ℕ) (xs ys : List X) (x : X) → xs ≡ map f (range_with_len 0 n) → ys ≡ xs ++ x ∷ [] → x ≡ f n → ys ≡ map f (range_with_len 0 (n + 1))
pushed f n xs ys x h e is = e ∙ rw (h, is) (sym (listed_more f n))

module _ (bytes : List ℕ) (header : FileHeader) (e : header ≡ file_header bytes) where
  pub program_there : (i : ℕ) → missing bytes (program_offset bytes) (32 * program_count bytes) ≡ None → i < header.program_count → header.program_offset + 32 * i + 32 ≤ length bytes
  program_there i h inside =
      let count : header.program_count ≡ program_count bytes = ap (λ (x : FileHeader). x.program_count) e in
      let start : header.program_offset ≡ program_offset bytes = ap (λ (x : FileHeader). x.program_offset) e in
      omega (arith, part_there bytes (program_offset bytes) (32 * program_count bytes) (omega arith) h)

  pub section_there : (i : ℕ) → missing bytes (section_offset bytes) (40 * section_count bytes) ≡ None → i < header.section_count → header.section_offset + 40 * i + 40 ≤ length bytes
  section_there i h inside =
      let count : header.section_count ≡ section_count bytes = ap (λ (x : FileHeader). x.section_count) e in
      let start : header.section_offset ≡ section_offset bytes = ap (λ (x : FileHeader). x.section_offset) e in
      omega (arith, part_there bytes (section_offset bytes) (40 * section_count bytes) (omega arith) h)

  pub program_pushed : (i : ℕ) (xs ys : List ProgramHeader) (x : ProgramHeader) → xs ≡ map (λ k. program_header bytes (program_offset bytes + 32 * k)) (range_with_len 0 i) → ys ≡ xs ++ x ∷ []
      → x ≡ program_header bytes (header.program_offset + 32 * i) → ys ≡ map (λ k. program_header bytes (program_offset bytes + 32 * k)) (range_with_len 0 (i + 1))
  program_pushed i xs ys x h push is =
      pushed (λ k. program_header bytes (program_offset bytes + 32 * k)) i xs ys x h push (is ∙ ap (λ (y : FileHeader). program_header bytes (y.program_offset + 32 * i)) e)

  pub section_pushed : (i : ℕ) (xs ys : List SectionHeader) (x : SectionHeader) → xs ≡ map (λ k. section_header bytes (section_offset bytes + 40 * k)) (range_with_len 0 i) → ys ≡ xs ++ x ∷ []
      → x ≡ section_header bytes (header.section_offset + 40 * i) → ys ≡ map (λ k. section_header bytes (section_offset bytes + 40 * k)) (range_with_len 0 (i + 1))
  section_pushed i xs ys x h push is =
      pushed (λ k. section_header bytes (section_offset bytes + 40 * k)) i xs ys x h push (is ∙ ap (λ (y : FileHeader). section_header bytes (y.section_offset + 40 * i)) e)
