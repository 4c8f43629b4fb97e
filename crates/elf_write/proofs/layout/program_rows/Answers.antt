use Rattle.std.proofs.Common.{ℕ, List, length, ◌++◌, ap, ◌∙◌, arith}
use Rattle.elf_image.specs.declared.format.ProgramHeader.{ProgramHeader}
use Rattle.elf_write.specs.Layout.{program_bytes}
use Rattle.elf_write.proofs.Layouts.{next_fits, next_all, program_past}
use Rattle.elf_write.proofs.layout.program_rows.Goals as goal

pub load_header-requires-clause-at : goal.load_header-requires-clause-at
load_header-requires-clause-at c =
    omega (arith, next_fits c.loop-s.end _ c.args.segments.now c.loop-s.s-index c.s-item.result c.loop-s-test.true c.s-item.is c.loop-s.invariant.0, c.requires, c.align_to_word-at.ensures)

pub load_header-requires-clause-fits : goal.load_header-requires-clause-fits
load_header-requires-clause-fits c =
    omega (arith, next_fits c.loop-s.end _ c.args.segments.now c.loop-s.s-index c.s-item.result c.loop-s-test.true c.s-item.is c.loop-s.invariant.0, c.requires, c.align_to_word-at.ensures)

pub overflow_add-end : goal.overflow_add-end
overflow_add-end c =
    let size = ap (λ (bytes : List ℕ). length bytes) c.as_slice-size.ensures in
    omega (arith, next_fits c.loop-s.end _ c.args.segments.now c.loop-s.s-index c.s-item.result c.loop-s-test.true c.s-item.is c.loop-s.invariant.0, c.requires, c.align_to_word-at.ensures, size)

pub loop-s-preserved : goal.loop-s-preserved
loop-s-preserved c = (
  next_all c.loop-s.end _ _ c.args.segments.now c.loop-s.s-index c.s-item.result _ c.loop-s-test.true c.s-item.is c.as_slice-size.ensures c.align_to_word-at.ensures c.loop-s.invariant.0,
  program_past c.loop-s.end _ c.args.segments.now c.loop-s.s-index c.s-item.result _ c.loop-s.out.items _ _ c.loop-s-test.true c.s-item.is c.as_slice-size.ensures c.align_to_word-at.ensures
      (c.in_ok-put_program.ensures ∙ ap (λ (h : ProgramHeader). c.loop-s.out.items ++ program_bytes h) c.load_header.ensures) c.loop-s.invariant.1,
)
