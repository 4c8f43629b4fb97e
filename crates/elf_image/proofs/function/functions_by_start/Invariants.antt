use Rattle.std.proofs.Common.{◌≡◌, take}
use Rattle.elf_image.specs.Functions.{functions_by_start}
use Rattle.elf_image.proofs.function.functions_by_start.Given as goal

abbrev pub invariant-loop-s : goal.invariant-loop-s
invariant-loop-s l = l.entries.entries ≡ functions_by_start l.segments (take l.s-index l.symbols)
