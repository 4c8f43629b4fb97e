use Rattle.std.proofs.Common.{arith}
use Rattle.mem_guards.proofs.FlagLemmas.{none_released}
use Rattle.mem_guards.proofs.guards.release_home.Goals as goal

pub returns-else-clear-home-lt-HOME_NUMBERS-clause-released : goal.returns-else-clear-home-lt-HOME_NUMBERS-clause-released
returns-else-clear-home-lt-HOME_NUMBERS-clause-released c =
    none_released c.args.numbers.now c.args.home _ _ (c.requires.flags.each c.args.home c.requires.home) (omega arith)
