use Rattle.sim_changes.proofs.Memories.{memory}
use Rattle.sim_changes.proofs.free_memory.Goals as goal

pub returns : goal.returns
returns c = memory
