use Rattle.std.proofs.Common.{ℕ, List, length, ◌++◌, ap, ◌∙◌, arith}
use Rattle.elf_write.specs.declared.layout.SectionRow.{SectionRow}
use Rattle.elf_write.specs.Layout.{section_bytes}
use Rattle.elf_write.proofs.Layouts.{next_fits, next_all, sections_past}
use Rattle.elf_write.proofs.layout.section_rows.Goals as goal

pub segment_row-requires-clause-at : goal.segment_row-requires-clause-at
segment_row-requires-clause-at c =
    omega (arith, next_fits c.loop-s.end _ c.args.segments.now c.loop-s.s-index c.s-item.result c.loop-s-test.true c.s-item.is c.loop-s.invariant.0, c.requires.fits, c.align_to_word-at.ensures)

pub segment_row-requires-clause-fits : goal.segment_row-requires-clause-fits
segment_row-requires-clause-fits c =
    omega (arith, next_fits c.loop-s.end _ c.args.segments.now c.loop-s.s-index c.s-item.result c.loop-s-test.true c.s-item.is c.loop-s.invariant.0, c.requires.fits, c.align_to_word-at.ensures)

pub overflow_add-end : goal.overflow_add-end
overflow_add-end c =
    let size = ap (λ (bytes : List ℕ). length bytes) c.as_slice-size.ensures in
    omega (arith, next_fits c.loop-s.end _ c.args.segments.now c.loop-s.s-index c.s-item.result c.loop-s-test.true c.s-item.is c.loop-s.invariant.0, c.requires.fits, c.align_to_word-at.ensures, size)

pub loop-s-preserved : goal.loop-s-preserved
loop-s-preserved c = (
  next_all c.loop-s.end _ _ c.args.segments.now c.loop-s.s-index c.s-item.result _ c.loop-s-test.true c.s-item.is c.as_slice-size.ensures c.align_to_word-at.ensures c.loop-s.invariant.0,
  omega arith,
  omega arith,
  sections_past c.loop-s.i c.loop-s.name c.loop-s.end _ _ c.args.segments.now c.loop-s.s-index c.s-item.result _ c.loop-s.out.items _ _ c.loop-s-test.true c.s-item.is c.as_slice-size.ensures c.align_to_word-at.ensures
      c.segment_name_len-name.ensures.len (c.in_ok-put_section.ensures ∙ ap (λ (row : SectionRow). c.loop-s.out.items ++ section_bytes row) c.segment_row.ensures) c.loop-s.invariant.3,
)
