use Rattle.eh_trace.proofs.Pushed.{pushed_holds}
use Rattle.eh_trace.proofs.events.Events.push.Goals as goal

pub returns-clause-all : goal.returns-clause-all
returns-clause-all c all x = rw (c.add.ensures) (pushed_holds _ _ all x)
