use Rattle.std.proofs.Common.{◌≡◌, ◌+◌, ◌*◌, ◌^◌, ◌<◌, length}
use Rattle.std.specs.Int.{bit_at}
use Rattle.thumb_core.specs.Words.{registers_of_list, load_words, loads_from}
use Rattle.eh_bytecode.proofs.frame.load_list.Given as goal

abbrev pub invariant-loop-rest : goal.invariant-loop-rest
invariant-loop-rest g l = record {
  small : l.rest < 2 ^ 16;
  no_sp : bit_at l.rest 13 ≡ 0;
  size : length l.r ≡ 16;
  counted : l.at + 4 * length (registers_of_list l.rest) ≡ 4 * length (registers_of_list l.list);
  to_do : load_words (g.B.Bus.memory l.bus).segments l.a (loads_from l.at (registers_of_list l.rest)) l.r
      ≡ load_words (g.B.Bus.memory l.bus).segments l.a (loads_from 0 (registers_of_list l.list)) l.initial.r;
}

abbrev pub decreases-loop-rest : goal.decreases-loop-rest
decreases-loop-rest g l = length (registers_of_list l.rest)
