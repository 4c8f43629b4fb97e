use Rattle.thread_memory.proofs.Switching.{law_of_shut, law_of_owners}
use Rattle.thread_memory.proofs.laws.others_are_out_of_use.Goals as goal

pub returns : goal.returns
returns c = record { shut = law_of_shut; own = law_of_owners }
