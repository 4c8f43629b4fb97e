use Rattle.std.proofs.Common.{◌≡◌, ◌++◌, None, drop}
use Rattle.asm_layout.specs.Faults.{first_of_all}
use Rattle.asm_layout.specs.Walks.{start, pools_from, walk_after}
use Rattle.asm_layout.specs.Labels.{too_large_from}
use Rattle.asm_layout.specs.Placing.{unresolved_stmts}
use Rattle.asm_layout.proofs.layout.place_all.Given as goal

abbrev pub invariant-loop-stmt : goal.invariant-loop-stmt
invariant-loop-stmt l = record {
  placed : l.placed.items ++ unresolved_stmts l.entries l.walk (drop l.stmt-index l.stmts) ≡ unresolved_stmts l.entries start l.stmts;
  pools : l.pools ++ pools_from l.entries l.walk (drop l.stmt-index l.stmts) ≡ pools_from l.entries start l.stmts;
  walk : walk_after l.entries l.walk (drop l.stmt-index l.stmts) ≡ walk_after l.entries start l.stmts;
  too_large : first_of_all l.too_large (too_large_from l.entries l.walk l.last (drop l.stmt-index l.stmts)) ≡ first_of_all None (too_large_from l.entries start 0 l.stmts);
}
