use Rattle.std.proofs.Common.{◌≡◌, drop, find}
use Rattle.eh_word.specs.Names.{same_bytes}
use Rattle.elf_image.proofs.image.address_of.Given as goal

abbrev pub invariant-loop-n : goal.invariant-loop-n
invariant-loop-n l = find (λ n. same_bytes n.name l.name) (drop l.n-index l.symbols) ≡ find (λ n. same_bytes n.name l.name) l.symbols
