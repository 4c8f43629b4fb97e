use Rattle.std.proofs.Common.{◌≡◌, ◌≤◌, ◌*◌}
use Rattle.thumb_core.specs.Words.{registers_of_list}
use Rattle.thumb_core.proofs.Listed.{listed_from}
use Rattle.frame_facts.specs.Lists.{load_registers}
use Rattle.frame_facts.proofs.lists.load.Given as goal

abbrev pub invariant-loop-k : goal.invariant-loop-k
invariant-loop-k l = record {
  few : l.at ≤ 4 * l.k;
  to_do : load_registers l.p l.fact l.at (listed_from l.k l.list) l.left ≡ load_registers l.p l.fact 0 (registers_of_list l.list) l.fact;
}
