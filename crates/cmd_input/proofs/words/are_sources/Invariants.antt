use Rattle.std.proofs.Common.{◌≡◌, drop}
use Rattle.std.specs.List.{list_all}
use Rattle.cmd_answers.specs.Words.{texts}
use Rattle.cmd_input.specs.Words.{is_source}
use Rattle.cmd_input.proofs.words.are_sources.Given as goal

-- the names so far are of sources
abbrev pub invariant-loop-name : goal.invariant-loop-name
invariant-loop-name l = list_all is_source (texts l.names) ≡ list_all is_source (texts (drop l.name-index l.names))
