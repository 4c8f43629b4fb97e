use Rattle.std.proofs.Common.{arith, refl, ◌∙◌}
use Rattle.frame_facts.proofs.Walks.{clobber_start, clobber_next, clobber_past, clobber_end}
use Rattle.frame_facts.proofs.facts.clobber.Goals as goal
use Rattle.frame_facts.proofs.facts.clobber.Goals.{then-list-k-eq1, else-list-k-eq1}

pub loop-k-init : goal.loop-k-init
loop-k-init c = clobber_start c.args.list c.args.fact.now _ refl

pub loop-k-preserved : goal.loop-k-preserved
loop-k-preserved c = elim c.if-list-k-eq1.branch [
  | then-list-k-eq1 w ↦ clobber_next c.loop-k.k c.args.list c.loop-k.left c.if-list-k-eq1.left (omega arith) w.if-list-k-eq1.true (w.left-is ∙ w.forget_register.ensures) ∙ c.loop-k.invariant
  | else-list-k-eq1 w ↦ clobber_past c.loop-k.k c.args.list c.loop-k.left c.if-list-k-eq1.left (omega arith) w.if-list-k-eq1.false w.left-is ∙ c.loop-k.invariant
]

pub returns : goal.returns
returns c = clobber_end c.loop-k.k c.args.list c.loop-k.left _ (omega arith) c.loop-k.invariant
