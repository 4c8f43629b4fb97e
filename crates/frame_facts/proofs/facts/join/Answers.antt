use Rattle.std.proofs.Common.{◌∙◌, ◌||◌, ap, sym, arith, rules}
use Rattle.std.proofs.lemmas.List.{length-set}
use Rattle.frame_facts.specs.declared.facts.Source.TheVariants.{Entry}
use Rattle.frame_facts.proofs.Meeting.{met_next, met_done}
use Rattle.frame_facts.proofs.Vaguer.{some_joined}
use Rattle.frame_facts.proofs.facts.join.Goals as goal
use Rattle.frame_facts.proofs.facts.join.Goals.{then-a, else-a}

pub loop-k-preserved : goal.loop-k-preserved
loop-k-preserved c = record {
  met = met_next c.loop-k.k c.loop-k.regs c.args.b.now.regs (Entry 0) c.meet.result (omega (arith, c.loop-k.invariant.long)) (search rules) c.meet.ensures ∙ c.loop-k.invariant.met;
  long = length-set c.loop-k.regs c.loop-k.k c.meet.result ∙ c.loop-k.invariant.long;
}

pub returns : goal.returns
returns c = some_joined c.args.a.now c.args.b.now _ c.min.result c.loop-k.regs c.if-a-b.false (elim c.if-a.branch [ then-a w ↦ w.result-is ∙ w.if-a.true ∙ sym (ap (λ t. t || c.args.b.now.below) w.if-a.true) | else-a w ↦ w.result-is ∙ sym (ap (λ t. t || c.args.b.now.below) w.if-a.false) ]) c.min.ensures
    (met_done c.loop-k.k c.loop-k.regs c.args.b.now.regs _ (omega (arith, c.loop-k.invariant.long, c.loop-k-test.false)) c.loop-k.invariant.met)
