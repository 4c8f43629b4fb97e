use Rattle.std.proofs.Common.{◌≡◌, ◌++◌, drop, map, filter}
use Rattle.elf_image.specs.Image.{named_address, is_defined}
use Rattle.elf_image.proofs.named.read_named.Given as goal

abbrev pub invariant-loop-s : goal.invariant-loop-s
invariant-loop-s l =
    l.all.items ++ map (λ s. named_address l.segments s) (filter is_defined (drop l.s-index l.symbols))
    ≡ map (λ s. named_address l.segments s) (filter is_defined l.symbols)
