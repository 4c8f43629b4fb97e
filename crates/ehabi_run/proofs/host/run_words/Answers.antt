use Rattle.ehabi_run.proofs.host.run_words.Goals as goal

pub returns-clause-answer : goal.returns-clause-answer
returns-clause-answer g c = rw (c.deref.ensures.value, c.in_ok-texts.ensures) at c.ehabi_main.ensures
