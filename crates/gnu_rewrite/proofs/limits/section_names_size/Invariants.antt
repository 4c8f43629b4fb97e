use Rattle.std.proofs.Common.{◌≡◌, ◌+◌, ◌*◌, ◌≤◌, drop, length}
use Rattle.elf_write.specs.Layout.{segment_names}
use Rattle.gnu_rewrite.proofs.limits.section_names_size.Given as goal

abbrev pub invariant-loop-s : goal.invariant-loop-s
invariant-loop-s l = record {
  count : l.i ≡ l._s-index;
  size : l.total + length (segment_names l.i (drop l._s-index l.segments)) ≡ 27 + length (segment_names 0 l.segments);
  few : l.total ≤ 27 + 9 * l.i;
}
