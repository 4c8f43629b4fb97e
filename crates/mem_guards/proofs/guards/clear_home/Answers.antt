use Rattle.mem_guards.proofs.FlagLemmas.{home_emptied}
use Rattle.mem_guards.proofs.guards.clear_home.Goals as goal

pub returns-clause-released : goal.returns-clause-released
returns-clause-released c = home_emptied c.args.numbers.now c.clear_whole.new.numbers c.args.home c.args.clear c.requires.clear c.clear_whole.ensures.clear c.clear_whole.ensures.rest
