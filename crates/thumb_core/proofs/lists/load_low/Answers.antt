use Rattle.std.proofs.Common.{arith}
use Rattle.std.proofs.lemmas.Grind.{common_steps}
use Rattle.thumb_core.proofs.Listed.{listed_more}
use Rattle.thumb_core.proofs.lists.load_low.Goals as goal
use Rattle.thumb_core.proofs.lists.load_low.Goals.{then-list-k-eq1+in-Ok, else-list-k-eq1}

pub loop-k-preserved : goal.loop-k-preserved
loop-k-preserved g c = elim c.if-list-k-eq1.branch [
  | then-list-k-eq1+in-Ok w ↦ record {
    within = omega arith;
    size = grind (arith, common_steps);
    counted = grind (arith, common_steps, listed_more);
    to_do = grind (arith, common_steps, listed_more);
  }
  | else-list-k-eq1 w ↦ record {
    within = omega arith;
    size = grind (arith, common_steps);
    counted = grind (arith, common_steps, listed_more);
    to_do = grind (arith, common_steps, listed_more);
  }
]

pub returns-in-Err-clause-fault : goal.returns-in-Err-clause-fault
returns-in-Err-clause-fault g c = grind (arith, common_steps, listed_more, c.in-Err.ensures)
