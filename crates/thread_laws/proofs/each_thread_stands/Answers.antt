use Rattle.thread_laws.proofs.States.{each_stands}
use Rattle.thread_laws.proofs.each_thread_stands.Goals as goal

pub returns : goal.returns
returns c = each_stands
