use Rattle.std.proofs.Common.{◌+◌, drop, [], sym, ap, ◌∙◌, map, arith}
use Rattle.std.proofs.lemmas.List.{drop_all}
use Rattle.asm_layout.specs.declared.fault.AsmWhat.TheVariants.{DuplicateLabel}
use Rattle.asm_layout.specs.Faults.{fault_if, first_of_all}
use Rattle.asm_layout.specs.PlacedStmt.{PlacedStmt}
use Rattle.asm_layout.specs.Labels.{label_places, duplicates_from, stmt_of}
use Rattle.asm_layout.specs.LabelSteps.{labels_after, defines_again}
use Rattle.asm_layout.proofs.LayoutLaws.{drop-next, first_duplicate-more, labels_run, labels_run-is}
use Rattle.asm_layout.proofs.labels.define_labels.Goals as goal

pub loop-one-preserved : goal.loop-one-preserved
unfolding labels_run
loop-one-preserved c =
    let i = c.loop-one.one-index in
    let labels = c.loop-one.labels in
    let one = c.one-item.result in
    let whole = sym (drop-next c.args.placed.now i one (omega arith) c.one-item.is) in
    let opened = c.one.view_is in
    let after = c.in_ok-again.ensures.labels ∙ ap (λ (p : PlacedStmt). labels_after labels p.stmt.kind p.at) opened in
    let twice = c.first_if-duplicate.ensures
    ∙ ap (λ b. first_of_all c.loop-one.duplicate (fault_if b c.one.inside.stmt.now.line DuplicateLabel)) c.in_ok-again.ensures.again
    ∙ ap (λ (p : PlacedStmt). first_of_all c.loop-one.duplicate (fault_if (defines_again (label_places labels) p.stmt.kind) p.stmt.line DuplicateLabel)) opened in
    record {
      labels = rw after (rw whole at c.loop-one.invariant.labels);
      duplicate = rw (twice, after) (first_duplicate-more c.loop-one.duplicate labels one.stmt one.at (map stmt_of (drop (i + 1) c.args.placed.now)) ∙ rw whole at c.loop-one.invariant.duplicate);
    }

pub returns-clause-labels : goal.returns-clause-labels
unfolding labels_run
returns-clause-labels c =
    rw (drop_all c.loop-one.one-index c.args.placed.now (omega arith)) at c.loop-one.invariant.labels ∙ labels_run-is [] c.args.placed.now

pub returns-clause-duplicate : goal.returns-clause-duplicate
unfolding duplicates_from first_of_all
returns-clause-duplicate c = rw (drop_all c.loop-one.one-index c.args.placed.now (omega arith)) at c.loop-one.invariant.duplicate
