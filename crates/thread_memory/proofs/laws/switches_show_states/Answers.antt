use Rattle.thread_memory.proofs.Switching.{law_of_switches}
use Rattle.thread_memory.proofs.laws.switches_show_states.Goals as goal

pub returns : goal.returns
returns c = law_of_switches
