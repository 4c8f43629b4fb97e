use Rattle.frame_laws.proofs.Common.{meetings}
use Rattle.frame_laws.proofs.meetings_are_common.Goals as goal

pub returns : goal.returns
returns c = meetings
