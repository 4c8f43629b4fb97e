use Rattle.asm_laws.proofs.Standing.{law_of_closing}
use Rattle.asm_laws.proofs.functions_are_closed.Goals as goal

pub returns : goal.returns
returns c = law_of_closing
