use Rattle.mem_guards.proofs.FlagLemmas.{set_flags}
use Rattle.mem_guards.proofs.guards.set_bit.Goals as goal

pub returns-clause-flags : goal.returns-clause-flags
returns-clause-flags c = set_flags c.args.numbers.now c.args.i c.requires
