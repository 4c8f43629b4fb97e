use Rattle.std.proofs.Common.{◌≡◌, ◌+◌, ◌*◌, map}
use Rattle.std.specs.List.{range_with_len}
use Rattle.elf_image.specs.Format.{section_header, section_offset}
use Rattle.elf_image.proofs.format.section_headers.Given as goal

abbrev pub invariant-loop-i : goal.invariant-loop-i
invariant-loop-i l =
    l.headers.items ≡ map (λ i. section_header l.bytes (section_offset l.bytes + 40 * i)) (range_with_len 0 l.i)
