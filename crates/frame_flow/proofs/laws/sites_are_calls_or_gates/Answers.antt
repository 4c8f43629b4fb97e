use Rattle.frame_flow.proofs.Standing.{sites_are_calls_or_gates}
use Rattle.frame_flow.proofs.laws.sites_are_calls_or_gates.Goals as goal

pub returns : goal.returns
returns c = sites_are_calls_or_gates
