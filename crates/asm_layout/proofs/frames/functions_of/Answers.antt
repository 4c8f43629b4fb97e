use Rattle.std.proofs.Common.{sym, append_assoc, append-nil, arith}
use Rattle.std.proofs.lemmas.List.{drop_all}
use Rattle.asm_layout.specs.Functions.{entries_from, unwind_faults_from}
use Rattle.asm_layout.proofs.FaultLaws.{first_after}
use Rattle.asm_layout.proofs.LayoutLaws.{drop-next}
use Rattle.asm_layout.proofs.frames.functions_of.Goals as goal

pub loop-stmt-preserved : goal.loop-stmt-preserved
unfolding entries_from unwind_faults_from
loop-stmt-preserved c =
    let opened = c.in_ok-take.ensures.opened in
    let whole = sym (drop-next c.args.stmts.now c.loop-stmt.stmt-index c.stmt-item.result (omega arith) c.stmt-item.is) in
    record {
      entries = rw (c.in_ok-take.ensures.entries, opened, append_assoc) (rw whole at c.loop-stmt.invariant.entries);
      first = rw (c.in_ok-take.ensures.first, opened, ← first_after) (rw whole at c.loop-stmt.invariant.first);
    }

pub returns-clause-entries : goal.returns-clause-entries
unfolding entries_from
returns-clause-entries c =
    cc (append-nil c.loop-stmt.functions.entries, rw (drop_all c.loop-stmt.stmt-index c.args.stmts.now (omega arith)) at c.loop-stmt.invariant.entries)

pub returns-clause-first : goal.returns-clause-first
unfolding unwind_faults_from
returns-clause-first c = cc (rw (drop_all c.loop-stmt.stmt-index c.args.stmts.now (omega arith)) at c.loop-stmt.invariant.first)
