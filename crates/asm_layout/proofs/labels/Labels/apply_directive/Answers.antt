use Rattle.std.proofs.Common.{sym, ◌∙◌}
use Rattle.std.proofs.lemmas.List.{map-id}
use Rattle.asm_layout.proofs.LayoutLaws.{described_by-others}
use Rattle.asm_layout.proofs.labels.Labels.apply_directive.Goals as goal

pub returns-in_default : goal.returns-in_default
returns-in_default c =
    sym (described_by-others c.args.self.now c.args.kind.now c.in_default.not-TypeFunction c.in_default.not-TypeObject c.in_default.not-Global ∙ map-id c.args.self.now)
