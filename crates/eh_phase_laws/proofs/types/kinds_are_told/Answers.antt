use Rattle.eh_phase_laws.proofs.Worded.{vtables_tell_kinds, kinds_are_read}
use Rattle.eh_phase_laws.proofs.types.kinds_are_told.Goals as goal

pub returns : goal.returns
returns c = record { told = vtables_tell_kinds; read = kinds_are_read }
