use Rattle.std.proofs.Common.{sym, ◌∙◌, rules}
use Rattle.frame_facts.specs.declared.facts.Source.TheVariants.{Entry}
use Rattle.frame_facts.proofs.Same.{alike_next, alike_stop, alike_end}
use Rattle.frame_facts.proofs.facts.are_alike.Goals as goal

pub returns-then-not-is_same : goal.returns-then-not-is_same
returns-then-not-is_same c = sym (alike_stop c.loop-k.k c.args.a.now c.args.b.now (Entry 0) (search rules) (search rules) (sym c.is_same.ensures ∙ c.if-not-is_same.true)) ∙ c.loop-k.invariant

pub loop-k-preserved : goal.loop-k-preserved
loop-k-preserved c = alike_next c.loop-k.k c.args.a.now c.args.b.now (Entry 0) (search rules) (search rules) (sym c.is_same.ensures ∙ c.if-not-is_same.false) ∙ c.loop-k.invariant

pub returns : goal.returns
returns c = sym (alike_end c.loop-k.k c.args.a.now c.args.b.now (search rules) (search rules)) ∙ c.loop-k.invariant
