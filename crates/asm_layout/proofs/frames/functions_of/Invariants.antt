use Rattle.std.proofs.Common.{◌≡◌, ◌++◌, None, drop}
use Rattle.asm_layout.specs.Faults.{first_of_all}
use Rattle.asm_layout.specs.Functions.{entries_from, unwind_faults_from, entries_of, unwind_faults_of}
use Rattle.asm_layout.proofs.frames.functions_of.Given as goal

abbrev pub invariant-loop-stmt : goal.invariant-loop-stmt
invariant-loop-stmt l = record {
  entries : l.functions.entries ++ entries_from l.opened (drop l.stmt-index l.stmts) ≡ entries_of l.stmts;
  first : first_of_all l.functions.first (unwind_faults_from l.opened (drop l.stmt-index l.stmts)) ≡ first_of_all None (unwind_faults_of l.stmts);
}
