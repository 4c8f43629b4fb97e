use Rattle.asm_layout.proofs.FirstLaws.{law_of_first, law_of_none}
use Rattle.asm_layout.proofs.the_first_refusal_is_answered.Goals as goal

pub returns : goal.returns
returns c = record { first = law_of_first; none = law_of_none }
