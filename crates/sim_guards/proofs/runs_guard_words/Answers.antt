use Rattle.sim_guards.proofs.Words.{guard_words}
use Rattle.sim_guards.proofs.runs_guard_words.Goals as goal

pub returns : goal.returns
returns c = guard_words
