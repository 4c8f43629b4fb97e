use Rattle.std.proofs.Common.{◌≡◌, ◌+◌, drop, nat_le, ◌&&◌}
use Rattle.std.specs.List.{position_from}
use Rattle.elf_write.specs.declared.parts.OwnSegment.{OwnSegment}
use Rattle.elf_write.proofs.rows.section_of.Given as goal

abbrev pub invariant-loop-s : goal.invariant-loop-s
invariant-loop-s l =
    (l.number ≡ 1 + l.s-index)
    × (position_from (λ (s : OwnSegment). nat_le s.start l.value && nat_le l.value (s.start + s.size)) l.number (drop l.s-index l.segments)
    ≡ position_from (λ (s : OwnSegment). nat_le s.start l.value && nat_le l.value (s.start + s.size)) 1 l.segments)
