use Rattle.eh_phase_laws.proofs.Worded.{single_bases, many_bases, others_have_no_bases}
use Rattle.eh_phase_laws.proofs.types.bases_are_told.Goals as goal

pub returns : goal.returns
returns c = record { single = single_bases; many = many_bases; none = others_have_no_bases }
