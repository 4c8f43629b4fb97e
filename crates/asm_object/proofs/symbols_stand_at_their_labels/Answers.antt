use Rattle.asm_object.proofs.LabelLaws.{law_of_symbols}
use Rattle.asm_object.proofs.symbols_stand_at_their_labels.Goals as goal

pub returns : goal.returns
returns c = law_of_symbols
