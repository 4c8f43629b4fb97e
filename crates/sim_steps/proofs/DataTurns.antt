-- Events of the data group, whole.
use Rattle.std.proofs.Common.{sym, subst}
use Rattle.thumb_core.specs.Outcome.{Outcome as Stepping}
use Rattle.sim_machines.specs.ActivationLaws.{IsPlain}
use Rattle.sim_machines.specs.Checked.{program_of}
use Rattle.sim_machines.proofs.CallEvents.{knows}
use Rattle.sim_machines.proofs.Matching.{plain_match}
use Rattle.sim_steps.specs.Steps.{DataTurns}
use Rattle.sim_steps.proofs.DataEffects.{data_is}
use Rattle.sim_steps.proofs.Data.{data_keeps}
use Rattle.sim_steps.proofs.Data as data_event

pub data_turns : DataTurns
data_turns x s i d input is k does works no_sp = record {
  same = plain_match (program_of x) s input (knows s k.corresponds)
      (subst (λ (o : Stepping). IsPlain (program_of x) s o.0) (sym (data_event.stepped x is s k does.at i does.size d does.stands no_sp (data_is i d works) works)) tt);
  keeps = data_keeps x is s k does.at i does.size d does.stands no_sp works does.reached input;
}
