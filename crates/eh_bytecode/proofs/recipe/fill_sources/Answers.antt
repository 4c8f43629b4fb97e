use Rattle.std.proofs.Common.{◌≡◌, [], length, arith, ap, ◌∙◌}
use Rattle.std.proofs.lemmas.Grind.{common_steps}
use Rattle.std.proofs.lemmas.Int.{ints}
use Rattle.thumb_core.proofs.Listed.{listed_from, listed_more, listed_none}
use Rattle.eh_bytecode.proofs.Near.{fill_step, fill_past}
use Rattle.eh_bytecode.proofs.recipe.fill_sources.Goals as goal
use Rattle.eh_bytecode.proofs.recipe.fill_sources.Goals.{then-list-k-eq1, else-list-k-eq1}

pub loop-k-preserved : goal.loop-k-preserved
loop-k-preserved c = elim c.if-list-k-eq1.branch [
  | then-list-k-eq1 w ↦ record {
    size = grind (arith, common_steps);
    few = omega arith;
    counted = grind (arith, common_steps, listed_more);
    to_do = fill_step _ _ _ _ _ c.loop-k.k c.args.list _ _ _ (omega arith) w.if-list-k-eq1.true (omega (arith, ints, w.offset_at.ensures)) w.from.ensures w.src-is w.words-is ∙ c.loop-k.invariant.to_do;
  }
  | else-list-k-eq1 w ↦ record {
    size = grind (arith, common_steps);
    few = omega arith;
    counted = grind (arith, common_steps, listed_more);
    to_do = fill_past _ _ _ _ c.loop-k.k c.args.list _ _ (omega arith) w.if-list-k-eq1.false w.src-is w.words-is ∙ c.loop-k.invariant.to_do;
  }
]

pub returns-clause-after : goal.returns-clause-after
returns-clause-after c =
    let last : c.loop-k.k ≡ 16 = omega arith in
    let none : listed_from c.loop-k.k c.args.list ≡ [] = rw last (listed_none c.args.list) in
    let size : length (listed_from c.loop-k.k c.args.list) ≡ 0 = ap length none in
    omega (arith, ints, size, c.loop-k.invariant.counted, c.offset_at-2.ensures)
