use Rattle.eh_types.proofs.Meaning.{leads_held}
use Rattle.eh_types.proofs.laws.bases_and_pointees_are_held.Goals as goal

pub returns : goal.returns
returns c = leads_held
