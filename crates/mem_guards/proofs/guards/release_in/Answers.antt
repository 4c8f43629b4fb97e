use Rattle.std.proofs.Common.{arith}
use Rattle.mem_guards.proofs.FlagLemmas.{none_released, home_released}
use Rattle.mem_guards.proofs.guards.release_in.Goals as goal

pub returns-then-end-first-clause-released : goal.returns-then-end-first-clause-released
returns-then-end-first-clause-released c = none_released c.args.numbers.now c.args.home c.args.clear c.args.end c.requires.clear (omega arith)

pub returns-clause-released : goal.returns-clause-released
returns-clause-released c =
    home_released c.args.numbers.now c.clear_between.new.numbers c.args.home c.args.clear c.args.end c.requires.clear (omega arith) c.clear_between.ensures
