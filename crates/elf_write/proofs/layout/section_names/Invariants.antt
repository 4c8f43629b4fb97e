use Rattle.std.proofs.Common.{◌≡◌, ◌∷◌, ◌++◌, drop}
use Rattle.elf_write.specs.Layout.{segment_names}
use Rattle.elf_write.proofs.layout.section_names.Given as goal

abbrev pub invariant-loop-s : goal.invariant-loop-s
invariant-loop-s l =
    (l.i ≡ l._s-index) × (l.out.items ++ segment_names l.i (drop l._s-index l.segments) ≡ 0 ∷ segment_names 0 l.segments)
