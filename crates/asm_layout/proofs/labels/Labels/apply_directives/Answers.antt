use Rattle.std.proofs.Common.{◌+◌, drop, sym, ◌∙◌, arith}
use Rattle.std.proofs.lemmas.List.{drop_all}
use Rattle.asm_layout.proofs.LayoutLaws.{drop-next, map-described-more, map-described-none}
use Rattle.asm_layout.proofs.labels.Labels.apply_directives.Goals as goal

pub loop-stmt-preserved : goal.loop-stmt-preserved
loop-stmt-preserved c =
    let i = c.loop-stmt.stmt-index in
    let stmt = c.stmt-item.result in
    rw c.apply_directive.ensures
    (map-described-more stmt (drop (i + 1) c.args.stmts.now) c.loop-stmt.self
    ∙ rw (sym (drop-next c.args.stmts.now i stmt (omega arith) c.stmt-item.is)) at c.loop-stmt.invariant)

pub returns : goal.returns
returns c =
    sym (map-described-none c.loop-stmt.self) ∙ rw (drop_all c.loop-stmt.stmt-index c.args.stmts.now (omega arith)) at c.loop-stmt.invariant
