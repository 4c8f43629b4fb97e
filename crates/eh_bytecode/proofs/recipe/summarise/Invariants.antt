use Rattle.std.proofs.Common.{◌≡◌, ◌-◌, ◌≤◌, length}
use Rattle.eh_codes.specs.Cut.{split_codes, split_codes_from}
use Rattle.eh_bytecode.specs.Recipe.{sums, recipe, IsNear}
use Rattle.eh_bytecode.proofs.recipe.summarise.Given as goal

abbrev pub invariant-loop-first : goal.invariant-loop-first
invariant-loop-first l = record {
  within : length l.left ≤ length l.codes;
  near : IsNear l.sum.vsp;
  to_do : sums l.sum (split_codes_from (length l.codes - length l.left) l.left) ≡ recipe (split_codes l.codes);
}

abbrev pub decreases-loop-first : goal.decreases-loop-first
decreases-loop-first l = length l.left
