use Rattle.eh_link.proofs.Holding.{law_of_other_bytes, law_of_fields}
use Rattle.eh_link.proofs.fields_hold_what_their_relocations_write.Goals as goal

pub returns : goal.returns
returns c = record { stay = law_of_other_bytes; hold = law_of_fields }
