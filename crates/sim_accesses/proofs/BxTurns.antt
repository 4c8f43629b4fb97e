-- A return by BX, whole.
use Rattle.sim_accesses.specs.Returning.{BxTurns}
use Rattle.sim_accesses.proofs.Returns.{bx_matches}
use Rattle.sim_accesses.proofs.Left.{bx_keeps}

pub bx_turns : BxTurns
bx_turns x s m input is k does = record {
  same = bx_matches x is s k does.at m does.size does.stands input;
  keeps = bx_keeps x is s k does.at m does.size does.stands input does.reached;
}
