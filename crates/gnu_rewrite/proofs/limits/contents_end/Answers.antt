use Rattle.std.proofs.Common.{refl, arith}
use Rattle.elf_write.proofs.Layouts.{next_all}
use Rattle.gnu_rewrite.proofs.limits.contents_end.Goals as goal

pub loop-s-preserved : goal.loop-s-preserved
loop-s-preserved c =
    let s = c.s-item.result in
    record {
      end =
          rw c.len.ensures
          (next_all c.loop-s.end c.align_to_word.result _ c.args.segments.now c.loop-s.s-index s s.bytes c.loop-s-test.true c.s-item.is refl c.align_to_word.ensures c.loop-s.invariant.end);
      few = omega (arith, c.align_to_word.ensures, c.loop-s.invariant.few, c.len.ensures);
    }
