use Rattle.std.proofs.Common.{All, take}
use Rattle.asm_statements.specs.declared.statement.Stmt.{Stmt}
use Rattle.asm_laws.specs.SourceRowLaw.{HasShortList}
use Rattle.asm_laws.proofs.types_bound_sources.Given as goal

abbrev pub invariant-loop-stmt : goal.invariant-loop-stmt
invariant-loop-stmt l = All (λ (s : Stmt). HasShortList s.kind) (take l.stmt-index l.stmts)
