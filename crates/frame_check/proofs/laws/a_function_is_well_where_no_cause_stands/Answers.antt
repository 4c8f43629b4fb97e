use Rattle.frame_reach.proofs.Existing.{marks_exist, marks_agree}
use Rattle.frame_flow.proofs.Instance.{facts_decide}
use Rattle.frame_check.proofs.Wells.{well_decides}
use Rattle.frame_check.proofs.laws.a_function_is_well_where_no_cause_stands.Goals as goal

pub returns : goal.returns
returns c = well_decides marks_exist marks_agree facts_decide
