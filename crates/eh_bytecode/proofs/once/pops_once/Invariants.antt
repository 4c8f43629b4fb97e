use Rattle.std.proofs.Common.{◌≡◌, ◌-◌, ◌≤◌, length}
use Rattle.eh_codes.specs.Cut.{split_codes_from}
use Rattle.eh_bytecode.proofs.Fresh.{Left}
use Rattle.eh_bytecode.proofs.once.pops_once.Given as goal

abbrev pub invariant-loop-first : goal.invariant-loop-first
invariant-loop-first l = record {
  within : length l.left ≤ length l.codes;
  size : length l.seen ≡ 16;
  to_do : Left l.codes l.seen (split_codes_from (length l.codes - length l.left) l.left);
}

abbrev pub decreases-loop-first : goal.decreases-loop-first
decreases-loop-first l = length l.left
