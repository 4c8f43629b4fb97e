use Rattle.std.proofs.Common.{◌+◌, arith, drop}
use Rattle.eh_link.specs.Layout.{size_in, align_to_word}
use Rattle.eh_link.proofs.Layouts.{end_ge, end_next}
use Rattle.eh_link.proofs.places.end_of.Goals as goal

pub returns-then-size-from-clause-none : goal.returns-then-size-from-clause-none
returns-then-size-from-clause-none c =
    let next = end_next c.args.section c.loop-object.at c.args.objects.now c.loop-object.object-index c.object-item.result c.loop-object-test.true c.object-item.is in
    let more = end_ge c.args.section (align_to_word c.loop-object.at + size_in c.args.section c.object-item.result) (drop (c.loop-object.object-index + 1) c.args.objects.now) in
    omega (arith, next, more, c.loop-object.invariant.1)
