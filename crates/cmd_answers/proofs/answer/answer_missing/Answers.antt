use Rattle.cmd_answers.proofs.answer.answer_missing.Goals as goal

pub returns : goal.returns
returns g c = rw c.as_bytes.ensures.value at c.answer_both.ensures
