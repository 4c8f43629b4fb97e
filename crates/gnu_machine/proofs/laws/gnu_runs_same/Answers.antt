use Rattle.gnu_machine.proofs.Alike.{goes_on_same, gnu_runs_same}
use Rattle.gnu_machine.proofs.laws.gnu_runs_same.Goals as goal

pub returns-clause-going : goal.returns-clause-going
returns-clause-going c = goes_on_same c.args.filters.now c.gnu_turns_same.ensures

pub returns-clause-start : goal.returns-clause-start
returns-clause-start c = gnu_runs_same c.args.filters.now c.gnu_turns_same.ensures
