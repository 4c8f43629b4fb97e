use Rattle.std.proofs.Common.{arith, ap, not, sym, ◌∙◌}
use Rattle.frame_facts.specs.Prologues.{is_free}
use Rattle.frame_facts.proofs.Pushing.{any_start, any_next, any_past, any_stop, any_end}
use Rattle.frame_facts.proofs.straight.all_free.Goals as goal
use Rattle.frame_facts.proofs.straight.all_free.Goals.{then-list-k-eq1+else-not-is_free, else-list-k-eq1}

pub loop-k-init : goal.loop-k-init
loop-k-init c = any_start (λ reg. not (is_free reg)) c.args.list

pub loop-k-preserved : goal.loop-k-preserved
loop-k-preserved c = elim c.if-list-k-eq1.branch [
  | then-list-k-eq1+else-not-is_free w ↦
      any_next (λ reg. not (is_free reg)) c.loop-k.k c.args.list (omega arith) w.if-list-k-eq1.true (ap not (sym w.is_free.ensures ∙ w.if-not-is_free.false)) ∙ c.loop-k.invariant
  | else-list-k-eq1 w ↦ any_past (λ reg. not (is_free reg)) c.loop-k.k c.args.list (omega arith) w.if-list-k-eq1.false ∙ c.loop-k.invariant
]

pub returns-then-not-is_free : goal.returns-then-not-is_free
returns-then-not-is_free c =
    ap not (sym (any_stop (λ reg. not (is_free reg)) c.loop-k.k c.args.list (omega arith) c.if-list-k-eq1.true (ap not (sym c.is_free.ensures ∙ c.if-not-is_free.true))) ∙ c.loop-k.invariant)

pub returns : goal.returns
returns c = ap not (sym (any_end (λ reg. not (is_free reg)) c.loop-k.k c.args.list (omega arith)) ∙ c.loop-k.invariant)
