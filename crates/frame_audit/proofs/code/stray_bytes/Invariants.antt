use Rattle.std.proofs.Common.{◌≡◌, ◌≤◌, ◌*◌, ◌^◌, take}
use Rattle.std.specs.Prelude.{sum_by}
use Rattle.frame_audit.specs.Code.{is_stray, halfwords_in}
use Rattle.frame_audit.proofs.code.stray_bytes.Given as goal

abbrev pub invariant-loop-segment : goal.invariant-loop-segment
invariant-loop-segment l = record {
  count : l.count ≡ sum_by (halfwords_in (is_stray l.image)) (take l.segment-index l.image.segments);
  most : l.count ≤ l.segment-index * 2 ^ 32;
}
