use Rattle.cmd_answers.proofs.Answering.{answers_whole, answers_none}
use Rattle.cmd_answers.proofs.answer.answer_text.Goals as goal

pub returns-in-Ok : goal.returns-in-Ok
returns-in-Ok g c = answers_whole _ _ _ _ _ _ c.in-Ok.ensures.ok c.in-Ok.ensures.cause.later

pub returns-in-Err : goal.returns-in-Err
returns-in-Err g c = answers_none _ _ _ _ _ _ c.in-Err.ensures.fewer c.in-Err.ensures.cause.later c.in-Err.ensures.cause.failed
