use Rattle.std.proofs.Common.{◌≡◌, ◌++◌, take, drop}
use Rattle.asm_layout.specs.Placing.{with_pool_places}
use Rattle.asm_layout.proofs.layout.resolve.Given as goal

abbrev pub invariant-loop-one : goal.invariant-loop-one
invariant-loop-one l = take l.one-index l.placed ++ with_pool_places l.pools (drop l.one-index l.placed) ≡ with_pool_places l.initial.pools l.initial.placed
