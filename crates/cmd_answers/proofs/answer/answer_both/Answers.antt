use Rattle.cmd_answers.proofs.Answering.{answers_stopped, answers_both}
use Rattle.cmd_answers.proofs.answer.answer_both.Goals as goal

pub returns-in-Ok : goal.returns-in-Ok
returns-in-Ok g c = answers_both _ _ _ _ _ _ _ _ _ _ c.in-Ok.ensures.ok c.in-Ok.ensures.cause.later c.answer_text.ensures

pub returns-in-Err : goal.returns-in-Err
returns-in-Err g c = answers_stopped _ _ _ _ _ _ _ c.in-Err.ensures.fewer c.in-Err.ensures.cause.later c.in-Err.ensures.cause.failed
