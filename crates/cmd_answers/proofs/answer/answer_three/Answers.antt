use Rattle.cmd_answers.proofs.Answering.{answers_both}
use Rattle.cmd_answers.proofs.answer.answer_three.Goals as goal

pub returns-in-Ok : goal.returns-in-Ok
returns-in-Ok g c = answers_both _ _ _ _ _ _ _ _ _ _ c.in-Ok.ensures.ok c.in-Ok.ensures.cause.later c.answer_both.ensures
