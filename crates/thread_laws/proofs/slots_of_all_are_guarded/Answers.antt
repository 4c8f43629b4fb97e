use Rattle.thread_laws.proofs.States.{slots_guarded, slots_stop_runs}
use Rattle.thread_laws.proofs.slots_of_all_are_guarded.Goals as goal

pub returns : goal.returns
returns c = record { one = slots_guarded; several = slots_stop_runs }
