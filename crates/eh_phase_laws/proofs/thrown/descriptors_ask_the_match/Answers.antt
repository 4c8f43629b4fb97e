use Rattle.eh_phase_laws.proofs.Asked.{catches_ask_the_match, specifications_ask_the_match}
use Rattle.eh_phase_laws.proofs.thrown.descriptors_ask_the_match.Goals as goal

pub returns : goal.returns
returns c = record { catches = catches_ask_the_match; specifications = specifications_ask_the_match }
