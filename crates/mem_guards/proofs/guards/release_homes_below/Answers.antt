use Rattle.std.proofs.Common.{arith}
use Rattle.mem_guards.proofs.FlagLemmas.{empty_released}
use Rattle.mem_guards.proofs.guards.release_homes_below.Goals as goal

pub returns-else-max-last-clause-released : goal.returns-else-max-last-clause-released
returns-else-max-last-clause-released c =
    empty_released c.args.numbers.now c.args.clear.now c.args.empty.now c.args.first c.args.last c.requires.flags c.requires.within (omega arith)
