use Rattle.std.proofs.Common.{◌≡◌, ◌+◌, drop, take, fold, IfSome}
use Rattle.cmd_answers.specs.Words.{texts}
use Rattle.cmd_input.specs.AsksFor.{up_to_unavailable}
use Rattle.cmd_input.specs.Building.{files_of}
use Rattle.cmd_input.proofs.AllAnswers.{after}
use Rattle.cmd_input.proofs.sources.load.Given as goal

-- the files so far before those that are left are all of them, and neither the list of files nor the count has changed; the names so far were
-- asked for, and the first file that is missing or too long, if there is one, is after them
abbrev pub invariant-loop-name : goal.invariant-loop-name
invariant-loop-name g l = record {
  told : IfSome (g.F.Files.held l.initial.files) (λ held. files_of held (texts l.names) ≡ after l.all.items (files_of held (texts (drop l.name-index l.names))));
  same : g.F.Files.held l.files ≡ g.F.Files.held l.initial.files;
  kept : g.F.Files.faults l.files ≡ g.F.Files.faults l.initial.files;
  asked : g.F.Files.asked l.files ≡ fold g.F.Files.with_name (g.F.Files.asked l.initial.files) (texts (take l.name-index l.names));
  after : IfSome (g.F.Files.held l.initial.files) (λ held. up_to_unavailable held (texts l.names) ≡ l.name-index + up_to_unavailable held (texts (drop l.name-index l.names)));
}
