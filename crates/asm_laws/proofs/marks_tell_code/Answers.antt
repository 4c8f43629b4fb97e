use Rattle.asm_laws.proofs.Marks.{law_of_marks, law_of_pools, law_of_last_pools}
use Rattle.asm_laws.proofs.marks_tell_code.Goals as goal

pub returns : goal.returns
returns c = record { statements = law_of_marks; pools = law_of_pools; last = law_of_last_pools }
