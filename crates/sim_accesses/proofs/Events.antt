-- Loads, stores and moves of sp, whole.
use Rattle.frame_check.specs.Roots.{flow_graph_of}
use Rattle.sim_accesses.specs.Events.{AccessTurns, StackTurns}
use Rattle.sim_accesses.proofs.Accesses.{access_turns}
use Rattle.sim_prologue.proofs.sim_code.Bounded.{standing_bounds, are_in_range}
use Rattle.sim_accesses.proofs.Stacks.{stack_turns}

pub accesses : AccessTurns
accesses x s i input is k does what = access_turns x s i input is k does (standing_bounds (flow_graph_of x.image does.at.function) does.at.place i does.size does.stands) what

pub stacks : StackTurns
stacks x s i input is k does what = stack_turns x s i input is (are_in_range x) k does what
