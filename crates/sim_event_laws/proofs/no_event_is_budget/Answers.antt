use Rattle.sim_event_laws.proofs.Budgets.{is_none}
use Rattle.sim_event_laws.proofs.no_event_is_budget.Goals as goal

pub returns : goal.returns
returns c = is_none
