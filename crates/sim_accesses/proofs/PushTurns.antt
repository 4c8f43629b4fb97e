-- Every PUSH, whole.
use Rattle.sim_accesses.specs.PushEvents.{PushTurns}
use Rattle.sim_prologue.proofs.sim_code.Bounded.{are_in_range}
use Rattle.sim_accesses.proofs.FirstPush.{pushes_turn}

pub pushes : PushTurns
pushes x s list input is k does = pushes_turn x s list input is (are_in_range x) k does
