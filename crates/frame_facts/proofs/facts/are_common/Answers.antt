use Rattle.std.proofs.Common.{sym, drop, ◌∙◌, rules}
use Rattle.frame_facts.specs.declared.facts.Source.TheVariants.{Entry}
use Rattle.frame_facts.proofs.Staying.{stay_next, stay_stop, stay_end}
use Rattle.frame_facts.proofs.facts.are_common.Goals as goal

pub returns-then-not-is_common : goal.returns-then-not-is_common
returns-then-not-is_common c = sym (stay_stop c.loop-k.k c.args.held.now c.args.other.now (Entry 0) (search rules) (search rules) (sym c.is_common.ensures ∙ c.if-not-is_common.true)) ∙ c.loop-k.invariant

pub loop-k-preserved : goal.loop-k-preserved
loop-k-preserved c = stay_next c.loop-k.k c.args.held.now c.args.other.now (Entry 0) (search rules) (search rules) (sym c.is_common.ensures ∙ c.if-not-is_common.false) ∙ c.loop-k.invariant

pub returns : goal.returns
returns c = sym (stay_end c.loop-k.k c.args.held.now (drop c.loop-k.k c.args.other.now) (search rules)) ∙ c.loop-k.invariant
