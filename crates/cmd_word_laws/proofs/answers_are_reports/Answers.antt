use Rattle.cmd_word_laws.proofs.Answers.{answers}
use Rattle.cmd_word_laws.proofs.answers_are_reports.Goals as goal

pub returns : goal.returns
returns c = answers
