use Rattle.frame_flow.proofs.Standing.{entry_is_a_state}
use Rattle.frame_flow.proofs.laws.entry_is_a_state.Goals as goal

pub returns : goal.returns
returns c = entry_is_a_state
