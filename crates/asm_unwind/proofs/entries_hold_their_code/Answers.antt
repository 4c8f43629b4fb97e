use Rattle.asm_unwind.proofs.EntryLaws.{law_of_entries}
use Rattle.asm_unwind.proofs.ByteLaws.{law_of_function_entries}
use Rattle.asm_unwind.proofs.ReadLaws.{law_of_function_codes}
use Rattle.asm_unwind.proofs.entries_hold_their_code.Goals as goal

pub returns : goal.returns
returns c = record { entries = law_of_entries; functions = law_of_function_entries; read = law_of_function_codes }
