use Rattle.std.proofs.Common.{◌≡◌, ◌*◌, ◌^◌, ◌≤◌, take}
use Rattle.std.specs.Prelude.{sum_by}
use Rattle.gnu_rewrite.proofs.limits.memory.Given as goal

abbrev pub invariant-loop-s : goal.invariant-loop-s
invariant-loop-s l = record {
  total : l.total ≡ sum_by (λ s. s.size) (take l.s-index l.segments);
  few : l.total ≤ 2 ^ 32 * l.s-index;
}
