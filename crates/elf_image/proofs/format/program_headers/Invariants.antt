use Rattle.std.proofs.Common.{◌≡◌, ◌+◌, ◌*◌, map}
use Rattle.std.specs.List.{range_with_len}
use Rattle.elf_image.specs.Format.{program_header, program_offset}
use Rattle.elf_image.proofs.format.program_headers.Given as goal

abbrev pub invariant-loop-i : goal.invariant-loop-i
invariant-loop-i l =
    l.headers.items ≡ map (λ i. program_header l.bytes (program_offset l.bytes + 32 * i)) (range_with_len 0 l.i)
