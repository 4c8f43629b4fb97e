use Rattle.eh_phase.proofs.Speaks.{specifications_name_types}
use Rattle.eh_phase.proofs.laws.specifications_name_types.Goals as goal

pub returns : goal.returns
returns c = specifications_name_types
