use Rattle.run_images.proofs.Building.{no_zeros}
use Rattle.run_images.proofs.memory.code_memory.Goals as goal

pub returns : goal.returns
returns c = rw (no_zeros c.args.code.now) at c.build.ensures.memory
