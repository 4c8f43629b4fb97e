use Rattle.std.proofs.Common.{◌≡◌, ap, ◌∙◌, map, None, [], ◌++◌, take, drop, length, arith}
use Rattle.std.proofs.lemmas.List.{take-append-le, take_all}
use Rattle.asm_layout.specs.Faults.{first_of_all}
use Rattle.asm_layout.specs.Labels.{labels_in, labels_of, duplicates_from, stmt_of}
use Rattle.asm_layout.specs.LabelSteps.{label_with_size, label_with_directives}
use Rattle.asm_layout.specs.Placing.{place_stmts, with_pool_places}
use Rattle.asm_layout.specs.Walks.{start}
use Rattle.asm_layout.proofs.LayoutLaws.{labelled-from_sized}
use Rattle.asm_layout.proofs.PlacingLaws.{resolved-is, statements_kept}
use Rattle.asm_layout.proofs.layout.layout_of.Goals.{After-as_slice-2}
use Rattle.asm_layout.proofs.layout.layout_of.Goals as goal

-- the list that was filled in is that of the statements where they stand
whole-is : (c : After-as_slice-2) → take c.in_ok-placed.field-0.placed.len (c.resolve.new.placed ++ drop (length c.resolve.new.placed) c.in_ok-placed.field-0.placed.items) ≡ place_stmts c.args.entries.now c.args.stmts.now
whole-is c =
    let new = c.resolve.new.placed in
    take-append-le c.in_ok-placed.field-0.placed.len new _ (omega arith) ∙ take_all c.in_ok-placed.field-0.placed.len new (omega arith)
    ∙ c.resolve.ensures
    ∙ (λ j. with_pool_places ((c.as_slice.ensures ∙ c.in_ok-placed.ensures.pools) j) ((c.as_mut_slice.ensures.value ∙ c.in_ok-placed.ensures.placed) j))
    ∙ resolved-is c.args.entries.now start c.args.stmts.now

lent-is : (c : After-as_slice-2) → c.as_slice-2.result.now ≡ place_stmts c.args.entries.now c.args.stmts.now
lent-is c = c.as_slice-2.ensures.value ∙ whole-is c

pub returns-clause-placed : goal.returns-clause-placed
returns-clause-placed c = whole-is (goal.at.returns-clause-placed c).After-as_slice-2

pub returns-clause-labels : goal.returns-clause-labels
returns-clause-labels c =
    let stmts = c.args.stmts.now in
    c.apply_directives.ensures
    ∙ ap (map (label_with_directives stmts)) (c.in_ok-labels.ensures.labels ∙ ap (λ l. map (label_with_size l) (labels_in [] l)) (lent-is (goal.at.returns-clause-labels c).After-as_slice-2))
    ∙ labelled-from_sized c.args.entries.now stmts (labels_of c.args.entries.now stmts)

pub returns-clause-duplicate : goal.returns-clause-duplicate
returns-clause-duplicate c =
    c.in_ok-labels.ensures.duplicate
    ∙ ap (λ l. first_of_all None (duplicates_from [] (map stmt_of l))) (lent-is (goal.at.returns-clause-duplicate c).After-as_slice-2)
    ∙ ap (λ l. first_of_all None (duplicates_from [] l)) (statements_kept c.args.entries.now start c.args.stmts.now)
