use Rattle.std.proofs.Common.{◌≡◌, length}
use Rattle.eh_bytecode.proofs.Fresh.{Going}
use Rattle.eh_bytecode.proofs.once.mark.Given as goal

abbrev pub invariant-loop-k : goal.invariant-loop-k
invariant-loop-k l = record {
  size : length l.seen ≡ 16;
  going : Going l.initial.seen l.seen l.k l.list;
}
