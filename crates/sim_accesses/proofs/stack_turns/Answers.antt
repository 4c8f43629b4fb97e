use Rattle.sim_accesses.proofs.Events.{stacks}
use Rattle.sim_accesses.proofs.stack_turns.Goals as goal

pub returns : goal.returns
returns c = stacks
