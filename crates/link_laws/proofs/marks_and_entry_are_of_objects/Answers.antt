use Rattle.link_laws.proofs.Entries.{law_of_marks, law_of_entry}
use Rattle.link_laws.proofs.marks_and_entry_are_of_objects.Goals as goal

pub returns : goal.returns
returns c = record { marks = law_of_marks; entry = law_of_entry }
