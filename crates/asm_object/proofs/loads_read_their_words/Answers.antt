use Rattle.asm_object.proofs.LoadLaws.{law_of_loads}
use Rattle.asm_object.proofs.loads_read_their_words.Goals as goal

pub returns : goal.returns
returns c = law_of_loads
