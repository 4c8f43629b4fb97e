use Rattle.std.proofs.Common.{◌≡◌, [], ◌∷◌, ◌++◌, drop}
use Rattle.cmd_input.specs.Sources.{all_answers}
use Rattle.cmd_input.specs.Building.{statements_of, stubs}
use Rattle.cmd_input.proofs.AllAnswers.{after}
use Rattle.cmd_input.proofs.build.all_statements.Given as goal

-- the statements so far before those of the sources that are left and of the stubs
abbrev pub invariant-loop-source : goal.invariant-loop-source
invariant-loop-source l = all_answers statements_of (l.sources ++ stubs ∷ []) ≡ after l.all.items (all_answers statements_of (drop l.source-index l.sources ++ stubs ∷ []))
