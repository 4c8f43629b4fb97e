use Rattle.eh_cxa.proofs.Kept.{start_stands}
use Rattle.eh_cxa.proofs.globals.Globals.start.Goals as goal

pub returns-clause-lists : goal.returns-clause-lists
returns-clause-lists c = start_stands
