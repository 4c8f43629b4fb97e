use Rattle.eh_unwind_laws.proofs.Caller.{law_of_prologues}
use Rattle.eh_unwind_laws.proofs.Entries.{law_of_reading}
use Rattle.eh_unwind_laws.proofs.prologues_are_undone.Goals as goal

pub returns : goal.returns
returns c = record { read = law_of_reading; taken_back = law_of_prologues }
