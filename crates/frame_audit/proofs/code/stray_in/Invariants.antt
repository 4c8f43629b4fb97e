use Rattle.std.proofs.Common.{◌≡◌, ◌≤◌, ◌-◌}
use Rattle.std.specs.List.{count_by, range_with_len}
use Rattle.frame_audit.specs.Code.{is_stray}
use Rattle.frame_audit.proofs.code.stray_in.Given as goal

abbrev pub invariant-loop-a : goal.invariant-loop-a
invariant-loop-a l = record {
  count : l.count ≡ count_by (is_stray l.image) (range_with_len l.segment.start (l.a - l.segment.start));
  most : l.count ≤ l.a - l.segment.start;
}
