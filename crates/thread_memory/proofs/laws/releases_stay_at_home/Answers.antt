use Rattle.thread_memory.proofs.Guarding.{law_of_others, law_of_own}
use Rattle.thread_memory.proofs.laws.releases_stay_at_home.Goals as goal

pub returns : goal.returns
returns c = record { others = law_of_others; own = law_of_own }
