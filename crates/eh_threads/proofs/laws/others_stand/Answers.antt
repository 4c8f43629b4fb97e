use Rattle.eh_threads.proofs.Others.{others_stand}
use Rattle.eh_threads.proofs.laws.others_stand.Goals as goal

pub returns : goal.returns
returns c = others_stand
