use Rattle.sim_steps.proofs.Gates.{gate_turns}
use Rattle.sim_steps.proofs.gates_turn.Goals as goal

pub returns : goal.returns
returns c = gate_turns
