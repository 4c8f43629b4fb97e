use Rattle.std.proofs.Common.{All, subst}
use Rattle.std.proofs.lemmas.List.{take_all}
use Rattle.std.proofs.lemmas.List.Elements.{All-more}
use Rattle.asm_statements.specs.declared.statement.Stmt.{Stmt}
use Rattle.asm_laws.specs.SourceRowLaw.{HasShortList}
use Rattle.asm_laws.proofs.types_bound_sources.Goals as goal

abbrev IsShort : Stmt → Type 0
IsShort s = HasShortList s.kind

pub loop-stmt-preserved : goal.loop-stmt-preserved
loop-stmt-preserved c =
    All-more IsShort c.args.stmts.now c.loop-stmt.stmt-index c.stmt-item.result c.loop-stmt-test.true c.loop-stmt.invariant (subst IsShort c.stmt-item.is c.is_short.ensures)

pub returns-clause-short : goal.returns-clause-short
returns-clause-short c = subst (All IsShort) (take_all c.loop-stmt.stmt-index c.args.stmts.now c.loop-stmt-test.false) c.loop-stmt.invariant
