use Rattle.eh_match.proofs.Chains.{paths_are_all_chains, paths_go_depth_first}
use Rattle.eh_match.proofs.laws.paths_are_all_chains.Goals as goal

pub returns-clause-chains : goal.returns-clause-chains
returns-clause-chains c = paths_are_all_chains

pub returns-clause-order : goal.returns-clause-order
returns-clause-order c = paths_go_depth_first
