use Rattle.std.proofs.Common.{◌≡◌, ◌++◌, drop}
use Rattle.elf_image.specs.Functions.{clip_ends}
use Rattle.elf_image.proofs.function.clip_ends.Given as goal

abbrev pub invariant-loop-i : goal.invariant-loop-i
invariant-loop-i l = l.functions.items ++ clip_ends (drop l.i l.drafts) ≡ clip_ends l.drafts
