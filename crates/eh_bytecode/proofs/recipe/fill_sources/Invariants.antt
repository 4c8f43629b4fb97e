use Rattle.std.proofs.Common.{◌≡◌, ◌+◌, ◌*◌, ◌≤◌, length, pos}
use Rattle.std.specs.Prelude.{◌+ℤ◌}
use Rattle.thumb_core.specs.Words.{registers_of_list}
use Rattle.thumb_core.proofs.Listed.{listed_from}
use Rattle.eh_bytecode.specs.Recipe.{fill_sources}
use Rattle.eh_bytecode.proofs.recipe.fill_sources.Given as goal

abbrev pub invariant-loop-k : goal.invariant-loop-k
invariant-loop-k l = record {
  size : length l.src ≡ 16;
  few : l.words ≤ l.k;
  counted : l.words + length (listed_from l.k l.list) ≡ length (registers_of_list l.list);
  to_do : fill_sources l.based (l.offset +ℤ pos (4 * l.words)) (listed_from l.k l.list) l.src ≡ fill_sources l.based l.offset (registers_of_list l.list) l.initial.src;
}
