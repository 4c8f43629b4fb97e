use Rattle.thread_memory.proofs.Guarding.{law_of_misses, law_of_refused}
use Rattle.thread_memory.proofs.laws.stores_miss_guards.Goals as goal

pub returns : goal.returns
returns c = record { missed = law_of_misses; refused = law_of_refused }
