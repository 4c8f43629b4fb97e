use Rattle.std.proofs.Common.{◌≡◌, ◌+◌, ◌≤◌, ◌++◌, length, take}
use Rattle.thumb_core.specs.Words.{registers_of_list, words_in}
use Rattle.thumb_core.proofs.Listed.{listed_from}
use Rattle.thumb_core.proofs.lists.low_words.Given as goal

abbrev pub invariant-loop-k : goal.invariant-loop-k
invariant-loop-k l = record {
  within : l.count ≤ l.k;
  size : length l.words ≡ 9;
  counted : l.count + length (listed_from l.k l.list) ≡ length (registers_of_list l.list);
  so_far : take l.count l.words ++ words_in l.r (listed_from l.k l.list) ≡ words_in l.r (registers_of_list l.list);
}
