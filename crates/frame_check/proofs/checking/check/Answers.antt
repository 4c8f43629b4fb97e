use Rattle.frame_reach.proofs.Existing.{marks_agree}
use Rattle.frame_flow.proofs.Instance.{facts_decide}
use Rattle.frame_check.proofs.Wells.{refusals_right}
use Rattle.frame_check.proofs.checking.check.Goals as goal

pub returns-in-Err-clause-exact : goal.returns-in-Err-clause-exact
returns-in-Err-clause-exact c = λ ne a. refusals_right marks_agree facts_decide c.args.image _ (c.in-Err.ensures.refused ne) a
