use Rattle.std.proofs.Common.{ℕ, subst}
use Rattle.run_events.specs.Runs.{Event}
use Rattle.thumb_core.specs.declared.ends.End.{End}
use Rattle.eh_gates.specs.State.{State}
use Rattle.sim_machines.proofs.Leaving.{EventLeaves, event_left}
use Rattle.sim_machines.proofs.laws.ends_leave.Goals as goal

pub returns : goal.returns
returns c = λ p s t input end e. subst (λ (v : Event State End). EventLeaves s v) e (event_left p s input)
