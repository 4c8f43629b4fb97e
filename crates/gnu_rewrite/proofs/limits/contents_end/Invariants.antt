use Rattle.std.proofs.Common.{◌≡◌, ◌+◌, ◌*◌, ◌^◌, ◌≤◌, drop, length}
use Rattle.elf_write.specs.Layout.{contents}
use Rattle.gnu_rewrite.proofs.limits.contents_end.Given as goal

abbrev pub invariant-loop-s : goal.invariant-loop-s
invariant-loop-s l = record {
  end : l.end + length (contents l.end (drop l.s-index l.segments)) ≡ l.base + length (contents l.base l.segments);
  few : l.end ≤ 2 ^ 80 + 2 ^ 65 * l.s-index;
}
