-- Numbers and pieces of a joined list, read back.
use Rattle.std.proofs.Common.{◌≡◌, ℕ, ◌+◌, ◌^◌, ◌<◌, List, ◌++◌, length, take, drop, sym}
use Rattle.std.proofs.Math.Seq.{drop-append_seam, take-append_seam}
use Rattle.std.proofs.lemmas.List.{drop-drop}
use Rattle.byteorder.specs.Endian.{little_number}
use Rattle.byteorder.specs.Numbers.{little_number-reads_back}
use Rattle.elf_image.specs.declared.format.ProgramHeader.{ProgramHeader}
use Rattle.elf_write.specs.declared.layout.SectionRow.{SectionRow}
use Rattle.elf_write.specs.Layout.{word, half}

-- headers by their fields, in the order of the file
abbrev pub program : ℕ → ℕ → ℕ → ℕ → ℕ → ℕ → ProgramHeader
program kind offset address file_size memory_size flags = record { kind = kind; offset = offset; address = address; file_size = file_size; memory_size = memory_size; flags = flags }

abbrev pub section : ℕ → ℕ → ℕ → ℕ → ℕ → ℕ → ℕ → ℕ → ℕ → SectionRow
section name kind flags address offset size link info entry_size = record {
  name = name;
  kind = kind;
  flags = flags;
  address = address;
  offset = offset;
  size = size;
  link = link;
  info = info;
  entry_size = entry_size;
}

-- a number of 32 bits is what its bytes give
pub word_back : (x : ℕ) (rest : List ℕ) → x < 2 ^ 32 → little_number 4 (word x ++ rest) ≡ x
unfolding word
word_back x rest h = little_number-reads_back 4 x rest h

pub half_back : (x : ℕ) (rest : List ℕ) → x < 2 ^ 16 → little_number 2 (half x ++ rest) ≡ x
unfolding half
half_back x rest h = little_number-reads_back 2 x rest h

pub drop_more : (n m : ℕ) (xs : List ℕ) → drop (n + m) xs ≡ drop m (drop n xs)
drop_more n m xs = sym (drop-drop m n xs)

-- a number within a row
pub field_is : (n k at x : ℕ) (bytes row : List ℕ) → drop at bytes ≡ row → little_number n (drop k row) ≡ x → little_number n (drop (at + k) bytes) ≡ x
field_is n k at x bytes row h e = rw (drop_more at k bytes, h) e

-- what stands after a piece
pub after : (n m : ℕ) (bytes piece rest : List ℕ) → drop n bytes ≡ piece ++ rest → m ≡ n + length piece → drop m bytes ≡ rest
after n m bytes piece rest h e = rw (e, drop_more n (length piece) bytes, h) (drop-append_seam piece rest)

-- the piece itself
pub piece_is : (n : ℕ) (bytes piece rest : List ℕ) → drop n bytes ≡ piece ++ rest → take (length piece) (drop n bytes) ≡ piece
piece_is n bytes piece rest h = rw h (take-append_seam piece rest)
