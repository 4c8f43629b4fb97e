use Rattle.std.proofs.Common.{◌≡◌, ◌≤◌, take}
use Rattle.std.specs.List.{count_by}
use Rattle.frame_audit.specs.Counts.{is_counted}
use Rattle.frame_audit.proofs.counts.count.Given as goal

abbrev pub invariant-loop-a : goal.invariant-loop-a
invariant-loop-a l = record {
  count : l.count ≡ count_by (is_counted l.question) (take l.a-index l.audited);
  most : l.count ≤ l.a-index;
}
