use Rattle.std.proofs.Common.{arith}
use Rattle.elf_write.proofs.Layouts.{names_past}
use Rattle.elf_write.proofs.layout.section_names.Goals as goal

pub loop-s-preserved : goal.loop-s-preserved
loop-s-preserved c =
    (omega arith, names_past c.loop-s.i c.args.segments.now c.loop-s._s-index c.loop-s.out.items _ _ c.loop-s-test.true c.in_ok-put_segment_name.ensures c.loop-s.invariant.1)
