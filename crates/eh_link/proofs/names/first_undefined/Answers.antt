use Rattle.std.proofs.Common.{◌∙◌, sym}
use Rattle.eh_link.proofs.Steps.{undefined_step, chosen, skipped}
use Rattle.eh_link.proofs.names.first_undefined.Goals as goal

pub returns-then-is_some : goal.returns-then-is_some
returns-then-is_some c =
    let step = undefined_step c.args.global.now c.args.objects.now c.args.objects.now c.loop-object.object-index c.object-item.result c.loop-object-test.true c.object-item.is c.requires in
    sym (chosen (λ name. name.now) c.in_ok-found.found _ _ c.in_ok-found.ensures (sym c.if-is_some.ensures)) ∙ sym step ∙ c.loop-object.invariant

pub loop-object-preserved : goal.loop-object-preserved
loop-object-preserved c =
    let step = undefined_step c.args.global.now c.args.objects.now c.args.objects.now c.loop-object.object-index c.object-item.result c.loop-object-test.true c.object-item.is c.requires in
    sym (skipped (λ name. name.now) c.in_ok-found.found _ _ c.in_ok-found.ensures (sym c.if-is_some.ensures)) ∙ sym step ∙ c.loop-object.invariant
