use Rattle.std.proofs.Common.{◌∙◌, ap, arith, length}
use Rattle.std.proofs.lemmas.List.Sums.{sum_by-drop_more}
use Rattle.asm_relocatable.specs.declared.object.Object.{Object}
use Rattle.eh_link.proofs.places.index_end.Goals as goal

pub returns-then-rows-at-clause-none : goal.returns-then-rows-at-clause-none
returns-then-rows-at-clause-none c =
    let more = sum_by-drop_more (λ (object : Object). length object.rows) c.args.objects.now c.loop-object.object-index c.object-item.result c.loop-object-test.true in
    let rows = ap length c.as_slice-rows.ensures ∙ ap (λ (object : Object). length object.rows) c.object-item.is in
    let known = c.loop-object.invariant.1 in
    omega (arith, more, rows, known)
