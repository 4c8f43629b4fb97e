use Rattle.eh_bytecode.proofs.Lists.{range_shift}
use Rattle.eh_bytecode.proofs.frame.range.Goals as goal

pub returns : goal.returns
returns c = range_shift c.args.last c.requires
