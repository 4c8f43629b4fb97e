use Rattle.frame_reach.proofs.Existing.{marks_agree}
use Rattle.frame_flow.proofs.Instance.{facts_decide}
use Rattle.frame_check.proofs.Wells.{refusals_right}
use Rattle.frame_check.proofs.laws.what_is_refused_is_not_accepted.Goals as goal

pub returns : goal.returns
returns c = refusals_right marks_agree facts_decide
