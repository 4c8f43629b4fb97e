use Rattle.eh_cxa.proofs.LifeLaws.{lives_fit}
use Rattle.eh_cxa.proofs.laws.exceptions_end_once.Goals as goal

pub returns : goal.returns
returns c = lives_fit
