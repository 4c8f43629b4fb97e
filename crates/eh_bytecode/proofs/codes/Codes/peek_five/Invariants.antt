use Rattle.std.proofs.Common.{◌≡◌, ◌≤◌, ◌++◌, length, take}
use Rattle.eh_bytecode.proofs.codes.Codes.peek_five.Given as goal

abbrev pub invariant-loop-count : goal.invariant-loop-count
invariant-loop-count l = record {
  so_far : take l.count l.bytes ++ l.left ≡ l.self;
  within : l.count ≤ 5;
  size : length l.bytes ≡ 5;
}
