use Rattle.std.proofs.Common.{◌≡◌, drop}
use Rattle.cmd_input.specs.Sources.{all_answers}
use Rattle.cmd_input.specs.Building.{assemble_source}
use Rattle.cmd_input.proofs.AllAnswers.{after}
use Rattle.cmd_input.proofs.build.all_objects.Given as goal

-- the objects so far before those of the sources that are left
abbrev pub invariant-loop-source : goal.invariant-loop-source
invariant-loop-source l = all_answers assemble_source l.sources ≡ after l.all.items (all_answers assemble_source (drop l.source-index l.sources))
