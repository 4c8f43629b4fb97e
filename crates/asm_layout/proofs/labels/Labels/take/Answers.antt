use Rattle.std.proofs.Common.{◌≡◌, ◌++◌, sym, subst, ◌∙◌, map, ap}
use Rattle.std.specs.Result.{OnOk}
use Rattle.std.proofs.lemmas.List.{map-id, append-nil}
use Rattle.asm_layout.specs.Labels.{label_places, is_among, label_unless}
use Rattle.asm_layout.specs.LabelSteps.{blank_label, labels_after}
use Rattle.asm_layout.proofs.LayoutLaws.{nothing_said}
use Rattle.asm_layout.proofs.labels.Labels.take.Goals as goal

pub returns-in-Label-clause-labels : goal.returns-in-Label-clause-labels
returns-in-Label-clause-labels c =
    let es = c.args.self.now in
    let new = map blank_label (label_unless (is_among c.in-Label.name (label_places es)) c.in-Label.name c.args.place) in
    let e : es ++ new ≡ labels_after es c.args.kind.now c.args.place =
    ap (λ l. l ++ new) (sym (map-id es)) ∙ ap (λ k. labels_after es k c.args.place) (sym c.in-Label.is) in
    subst (λ l. OnOk c.define.result (c.define.new.self ≡ l)) e c.define.ensures.labels

pub returns-in_default : goal.returns-in_default
returns-in_default c =
    let said = nothing_said c.args.self.now c.args.kind.now c.args.place c.in_default.not-Label c.in_default.not-Size in
    record { again = sym said.0; labels = sym (said.1 ∙ append-nil _ ∙ map-id c.args.self.now) }
