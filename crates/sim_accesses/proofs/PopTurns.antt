-- A return or a load by POP, whole.
use Rattle.sim_accesses.specs.Returning.{PopTurns}
use Rattle.sim_prologue.proofs.sim_code.Bounded.{are_in_range}
use Rattle.sim_accesses.proofs.Pops.{pops_turn}

pub pops : PopTurns
pops x s list input is k does = pops_turn x s list input is (are_in_range x) k does
