use Rattle.std.proofs.Common.{◌≡◌, map, drop}
use Rattle.asm_layout.specs.LabelSteps.{label_with_directives}
use Rattle.asm_layout.proofs.labels.Labels.apply_directives.Given as goal

abbrev pub invariant-loop-stmt : goal.invariant-loop-stmt
invariant-loop-stmt l = map (label_with_directives (drop l.stmt-index l.stmts)) l.self ≡ map (label_with_directives l.stmts) l.fn.self
