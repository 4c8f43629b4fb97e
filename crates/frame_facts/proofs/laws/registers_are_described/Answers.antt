use Rattle.frame_facts.proofs.Described.{data_described, moves_described, clobbering_described}
use Rattle.frame_facts.proofs.laws.registers_are_described.Goals as goal

pub returns : goal.returns
returns c = record { worked_on = data_described; moves = moves_described; clobbering = clobbering_described }
