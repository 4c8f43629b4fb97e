use Rattle.std.proofs.Common.{◌+◌, ◌∙◌, sym, length, arith}
use Rattle.elf_write.proofs.Layouts.{next_fits, both_le, next_all, place_past}
use Rattle.elf_write.proofs.layout.file_place.Goals as goal

pub overflow_cast-result : goal.overflow_cast-result
overflow_cast-result c =
    omega (arith, next_fits c.loop-s.end _ c.args.segments.now c.loop-s.s-index c.s-item.result c.loop-s-test.true c.s-item.is c.loop-s.invariant.0, c.requires, c.align_to_word-at.ensures)

pub overflow_add-result : goal.overflow_add-result
overflow_add-result c =
    let range = both_le c.s-item.result.start c.args.address (c.args.address + c.args.size) (c.s-item.result.start + length c.s-item.result.bytes) (sym c.holds_range.ensures ∙ c.if-holds_range.true) in
    omega (arith, next_fits c.loop-s.end _ c.args.segments.now c.loop-s.s-index c.s-item.result c.loop-s-test.true c.s-item.is c.loop-s.invariant.0, c.requires, c.align_to_word-at.ensures, range.0, range.1)

pub loop-s-preserved : goal.loop-s-preserved
loop-s-preserved c = (
  next_all c.loop-s.end _ _ c.args.segments.now c.loop-s.s-index c.s-item.result _ c.loop-s-test.true c.s-item.is c.as_slice-len.ensures c.align_to_word-at.ensures c.loop-s.invariant.0,
  place_past c.args.address c.args.size c.loop-s.end _ _ c.args.segments.now c.loop-s.s-index c.s-item.result _ c.loop-s-test.true c.s-item.is c.as_slice-len.ensures
      c.align_to_word-at.ensures (sym c.holds_range.ensures ∙ c.if-holds_range.false) c.loop-s.invariant.1,
)
