use Rattle.std.proofs.Common.{arith, ap, ◌∙◌}
use Rattle.thumb_core.proofs.Listed.{listed_from}
use Rattle.frame_facts.specs.Lists.{load_registers}
use Rattle.frame_facts.proofs.Walks.{load_start, load_next, load_past, load_end}
use Rattle.frame_facts.proofs.lists.load.Goals as goal
use Rattle.frame_facts.proofs.lists.load.Goals.{then-list-k-eq1, else-list-k-eq1}

pub loop-k-init : goal.loop-k-init
loop-k-init c = record {
  few = omega arith;
  to_do = ap (load_registers c.args.p.now c.args.fact.now 0 (listed_from 0 c.args.list)) c.requires ∙ load_start c.args.p.now c.args.fact.now c.args.list;
}

pub loop-k-preserved : goal.loop-k-preserved
loop-k-preserved c = elim c.if-list-k-eq1.branch [
  | then-list-k-eq1 w ↦ record {
    few = omega (arith, w.at-is);
    to_do =
        load_next c.args.p.now c.args.fact.now c.loop-k.at c.if-list-k-eq1.at c.loop-k.k c.args.list c.loop-k.left c.if-list-k-eq1.left w.word_above.result (omega arith) w.if-list-k-eq1.true w.word_above.ensures (w.left-is ∙ w.set.ensures) w.at-is
        ∙ c.loop-k.invariant.to_do;
  }
  | else-list-k-eq1 w ↦ record {
    few = omega (arith, w.at-is);
    to_do = load_past c.args.p.now c.args.fact.now c.loop-k.at c.if-list-k-eq1.at c.loop-k.k c.args.list c.loop-k.left c.if-list-k-eq1.left (omega arith) w.if-list-k-eq1.false w.left-is w.at-is ∙ c.loop-k.invariant.to_do;
  }
]

pub returns : goal.returns
returns c = load_end c.args.p.now c.args.fact.now c.loop-k.at c.loop-k.k c.args.list c.loop-k.left _ (omega arith) c.loop-k.invariant.to_do
