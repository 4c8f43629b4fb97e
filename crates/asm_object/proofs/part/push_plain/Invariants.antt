use Rattle.std.proofs.Common.{◌≡◌, ◌++◌, drop, flat_map}
use Rattle.byteorder.specs.Endian.{little_bytes}
use Rattle.asm_layout.specs.Given.{bytes_of}
use Rattle.asm_layout.specs.Words.{low_word}
use Rattle.asm_object.proofs.part.push_plain.Given as goal

abbrev pub invariant-loop-n : goal.invariant-loop-n
invariant-loop-n l =
    l.bytes ++ flat_map (λ n. little_bytes (bytes_of l.width) (low_word n)) (drop l.n-index l.numbers)
    ≡ l.initial.bytes ++ flat_map (λ n. little_bytes (bytes_of l.width) (low_word n)) l.numbers
