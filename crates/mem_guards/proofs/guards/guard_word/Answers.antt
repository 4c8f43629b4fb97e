use Rattle.mem_guards.proofs.FlagLemmas.{stack_set}
use Rattle.mem_guards.proofs.guards.guard_word.Goals as goal

pub returns-then-lowest-clear-clause-set : goal.returns-then-lowest-clear-clause-set
returns-then-lowest-clear-clause-set c =
    stack_set c.args.a c.args.numbers.now c.set_bit.new.numbers c.requires.low c.requires.aligned c.requires.high c.requires.flags.flags.whole c.set_bit.ensures.flags

pub returns-else-lowest-clear-clause-set : goal.returns-else-lowest-clear-clause-set
returns-else-lowest-clear-clause-set c =
    stack_set c.args.a c.args.numbers.now c.set_bit.new.numbers c.requires.low c.requires.aligned c.requires.high c.requires.flags.flags.whole c.set_bit.ensures.flags
