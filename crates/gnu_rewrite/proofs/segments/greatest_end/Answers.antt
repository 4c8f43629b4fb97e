use Rattle.std.proofs.Common.{◌≡◌, ◌≤◌, arith}
use Rattle.std.specs.Prelude.{max}
use Rattle.elf_image.specs.Segments.{segment_end}
use Rattle.elf_image.specs.declared.limits.TheConstants.{ADDRESS_LIMIT}
use Rattle.gnu_rewrite.proofs.Ends.{ends_low, end_step}
use Rattle.gnu_rewrite.proofs.segments.greatest_end.Goals as goal

pub loop-s-preserved : goal.loop-s-preserved
loop-s-preserved c =
    let s = c.s-item.result in
    let segments = c.args.segments.now in
    let low : segment_end s ≤ ADDRESS_LIMIT = ends_low segments c.loop-s.s-index s c.s-item.is c.requires c.loop-s-test.true in
    let next : c.greater-end.result ≡ max c.loop-s.end (segment_end s) = omega (arith, c.greater-end.ensures, c.start.ensures, c.size.ensures) in
    record {
      end = end_step _ c.loop-s.end c.greater-end.result c.loop-s.s-index segments s c.loop-s-test.true c.s-item.is next c.loop-s.invariant.end;
      low = omega (arith, next, low, c.loop-s.invariant.low);
    }
