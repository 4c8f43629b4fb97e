use Rattle.eh_desc.proofs.Marks.{law_of_cleanups, law_of_catches, law_of_specifications, law_of_both}
use Rattle.eh_desc.proofs.descriptors_are_marked.Goals as goal

pub returns : goal.returns
returns c = record { cleanups = law_of_cleanups; catches = law_of_catches; specifications = law_of_specifications; both = law_of_both }
