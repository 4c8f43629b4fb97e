use Rattle.thread_memory.proofs.Guarding.{law_of_homes, law_of_apart}
use Rattle.thread_memory.proofs.laws.homes_part_the_stack.Goals as goal

pub returns : goal.returns
returns c = record { part = law_of_homes; apart = law_of_apart }
