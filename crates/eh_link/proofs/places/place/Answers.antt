use Rattle.std.proofs.Common.{drop, arith}
use Rattle.asm_relocatable.specs.declared.place.Section.TheVariants.{Text, Rodata, Extab, Init, Bss}
use Rattle.eh_link.proofs.Layouts.{end_ge, fits_first, fits_next, parts_fit, placed_step, placed_first}
use Rattle.eh_link.proofs.places.place.Goals as goal

pub loop-object-init : goal.loop-object-init
loop-object-init c = (rw (c.new-all.ensures.items, c.firsts-next.ensures) (placed_first c.args.objects.now c.args.layout c.requires.is), rw c.firsts-next.ensures (fits_first c.args.objects.now c.args.layout c.requires.is c.requires.rises))

pub align_all-at-requires-clause-text : goal.align_all-at-requires-clause-text
align_all-at-requires-clause-text c =
    omega (arith, end_ge Text c.loop-object.next.text (drop c.loop-object.object-index c.args.objects.now), c.loop-object.invariant.1.text)

pub align_all-at-requires-clause-rodata : goal.align_all-at-requires-clause-rodata
align_all-at-requires-clause-rodata c =
    omega (arith, end_ge Rodata c.loop-object.next.rodata (drop c.loop-object.object-index c.args.objects.now), c.loop-object.invariant.1.rodata)

pub align_all-at-requires-clause-extab : goal.align_all-at-requires-clause-extab
align_all-at-requires-clause-extab c =
    omega (arith, end_ge Extab c.loop-object.next.extab (drop c.loop-object.object-index c.args.objects.now), c.loop-object.invariant.1.extab)

pub align_all-at-requires-clause-init : goal.align_all-at-requires-clause-init
align_all-at-requires-clause-init c =
    omega (arith, end_ge Init c.loop-object.next.init (drop c.loop-object.object-index c.args.objects.now), c.loop-object.invariant.1.init)

pub align_all-at-requires-clause-bss : goal.align_all-at-requires-clause-bss
align_all-at-requires-clause-bss c =
    omega (arith, end_ge Bss c.loop-object.next.bss (drop c.loop-object.object-index c.args.objects.now), c.loop-object.invariant.1.bss)

pub part_ends-next-requires-clause-text : goal.part_ends-next-requires-clause-text
part_ends-next-requires-clause-text c =
    rw c.align_all-at.ensures
    (parts_fit c.loop-object.next c.args.objects.now c.loop-object.object-index c.object-item.result c.loop-object-test.true c.object-item.is c.loop-object.invariant.1).text

pub part_ends-next-requires-clause-rodata : goal.part_ends-next-requires-clause-rodata
part_ends-next-requires-clause-rodata c =
    rw c.align_all-at.ensures
    (parts_fit c.loop-object.next c.args.objects.now c.loop-object.object-index c.object-item.result c.loop-object-test.true c.object-item.is c.loop-object.invariant.1).rodata

pub part_ends-next-requires-clause-extab : goal.part_ends-next-requires-clause-extab
part_ends-next-requires-clause-extab c =
    rw c.align_all-at.ensures
    (parts_fit c.loop-object.next c.args.objects.now c.loop-object.object-index c.object-item.result c.loop-object-test.true c.object-item.is c.loop-object.invariant.1).extab

pub part_ends-next-requires-clause-init : goal.part_ends-next-requires-clause-init
part_ends-next-requires-clause-init c =
    rw c.align_all-at.ensures
    (parts_fit c.loop-object.next c.args.objects.now c.loop-object.object-index c.object-item.result c.loop-object-test.true c.object-item.is c.loop-object.invariant.1).init

pub part_ends-next-requires-clause-bss : goal.part_ends-next-requires-clause-bss
part_ends-next-requires-clause-bss c =
    rw c.align_all-at.ensures
    (parts_fit c.loop-object.next c.args.objects.now c.loop-object.object-index c.object-item.result c.loop-object-test.true c.object-item.is c.loop-object.invariant.1).bss

pub loop-object-preserved : goal.loop-object-preserved
loop-object-preserved c = (
  placed_step c.loop-object.all.items c.push.new.self.items c.loop-object.next c.align_all-at.result c.part_ends-next.result c.args.objects.now c.loop-object.object-index
      c.object-item.result _ c.loop-object-test.true c.object-item.is c.align_all-at.ensures c.part_ends-next.ensures c.in_ok-push.ensures.items c.loop-object.invariant.0,
  rw (c.part_ends-next.ensures, c.align_all-at.ensures)
      (fits_next c.loop-object.next c.args.objects.now c.loop-object.object-index c.object-item.result c.loop-object-test.true c.object-item.is c.loop-object.invariant.1),
)
