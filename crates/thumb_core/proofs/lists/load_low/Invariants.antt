use Rattle.std.proofs.Common.{◌≡◌, ◌+◌, ◌*◌, ◌≤◌, length}
use Rattle.thumb_core.specs.Words.{registers_of_list, load_words, loads_from}
use Rattle.thumb_core.proofs.Listed.{listed_from}
use Rattle.thumb_core.proofs.lists.load_low.Given as goal

abbrev pub invariant-loop-k : goal.invariant-loop-k
invariant-loop-k g l = record {
  within : l.at ≤ 4 * l.k;
  size : length l.r ≡ 15;
  counted : l.at + 4 * length (listed_from l.k l.list) ≡ 4 * length (registers_of_list l.list);
  to_do : load_words (g.B.Bus.memory l.bus).segments l.a (loads_from l.at (listed_from l.k l.list)) l.r
      ≡ load_words (g.B.Bus.memory l.bus).segments l.a (loads_from 0 (registers_of_list l.list)) l.initial.r;
}
