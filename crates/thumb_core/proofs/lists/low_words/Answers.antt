use Rattle.std.proofs.Common.{◌≡◌, [], arith, append-nil}
use Rattle.std.proofs.lemmas.Grind.{common_steps}
use Rattle.thumb_core.proofs.Listed.{listed_from, listed_more}
use Rattle.thumb_core.proofs.Loaded.{low_none}
use Rattle.thumb_core.proofs.lists.low_words.Goals as goal
use Rattle.thumb_core.proofs.lists.low_words.Goals.{then-list-k-eq1, else-list-k-eq1}

pub loop-k-preserved : goal.loop-k-preserved
loop-k-preserved c = elim c.if-list-k-eq1.branch [
  | then-list-k-eq1 w ↦ record {
    within = omega arith;
    size = grind (arith, common_steps);
    counted = grind (arith, common_steps, listed_more);
    so_far = grind (arith, common_steps, listed_more);
  }
  | else-list-k-eq1 w ↦ record {
    within = omega arith;
    size = grind (arith, common_steps);
    counted = grind (arith, common_steps, listed_more);
    so_far = grind (arith, common_steps, listed_more);
  }
]

pub returns-clause-words : goal.returns-clause-words
returns-clause-words c =
    let last : c.loop-k.k ≡ 8 = omega arith in
    let none : listed_from c.loop-k.k c.args.list ≡ [] = rw last (low_none c.args.list (omega arith)) in
    grind (arith, common_steps, append-nil)
