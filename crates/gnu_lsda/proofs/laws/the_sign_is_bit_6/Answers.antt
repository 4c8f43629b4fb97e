use Rattle.gnu_lsda.proofs.Signs.{law_of_signs}
use Rattle.gnu_lsda.proofs.laws.the_sign_is_bit_6.Goals as goal

pub returns : goal.returns
returns c = law_of_signs
