use Rattle.std.proofs.Common.{◌≡◌, ◌*◌, ◌^◌, ◌≤◌, take}
use Rattle.gnu_rewrite.specs.Sizes.{names_size}
use Rattle.gnu_rewrite.proofs.limits.names_size.Given as goal

abbrev pub invariant-loop-s : goal.invariant-loop-s
invariant-loop-s l = record {
  size : l.total ≡ names_size (take l.s-index l.symbols);
  few : l.total ≤ 2 ^ 64 * l.s-index;
}
