use Rattle.asm_unwind.proofs.Laws.{law_of_pads, law_of_offsets, law_of_saves}
use Rattle.asm_unwind.proofs.FunctionLaw.{law_of_functions}
use Rattle.asm_unwind.proofs.codes_undo_their_directives.Goals as goal

pub returns : goal.returns
returns c = record { pads = law_of_pads; offsets = law_of_offsets; saves = law_of_saves; functions = law_of_functions }
