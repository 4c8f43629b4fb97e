use Rattle.asm_laws.proofs.Room.{law_of_aligns, law_of_zeroed}
use Rattle.asm_laws.proofs.room_is_as_given.Goals as goal

pub returns : goal.returns
returns c = record { aligns = law_of_aligns; zeroed = law_of_zeroed }
