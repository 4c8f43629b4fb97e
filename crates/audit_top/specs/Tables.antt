-- Which images have GNU C++ unwind tables, and what an audit finds refused in them (docs/guide/audit.md, "Tables of C++ compilers").
use Rattle.std.specs.Prelude.{ℕ, Bool, List, is_some, Option}
use Rattle.std.specs.List.{list_any, range_with_len}
use Rattle.elf_image.specs.Image.{Image}
use Rattle.eh_index.specs.Rows.{entry_count}
use Rattle.gnu_index.specs.declared.refusal.GnuFault.{GnuFault}
use Rattle.gnu_index.specs.Refusal.{form_refusal}
use Rattle.gnu_lsda.specs.Entries.{generic_of, personality_in}

-- the numbers of the index's rows
abbrev pub rows_of : Image → List ℕ
rows_of image = range_with_len 0 (entry_count image)

-- the entry of a row is generic
abbrev pub has_generic : Image → Bool
has_generic image = list_any (λ k. is_some (generic_of image k)) (rows_of image)

-- why the entry of row k is refused, if it is
abbrev pub row_fault : Image → ℕ → Option GnuFault
row_fault image k = form_refusal image (personality_in image) (generic_of image k)
