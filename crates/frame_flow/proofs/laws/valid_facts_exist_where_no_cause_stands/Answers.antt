use Rattle.frame_flow.proofs.Instance.{facts_decide}
use Rattle.frame_flow.proofs.laws.valid_facts_exist_where_no_cause_stands.Goals as goal

pub returns : goal.returns
returns c = facts_decide
