use Rattle.eh_types.proofs.Meaning.{own_base_none}
use Rattle.eh_types.proofs.laws.none_is_its_own_base.Goals as goal

pub returns : goal.returns
returns c = own_base_none
