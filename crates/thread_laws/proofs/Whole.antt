-- What is told of whole runs from the start.
use Rattle.sim_machines.specs.Checked.{program_of}
use Rattle.sim_machines.specs.Start.{start_of}
use Rattle.eh_threads.specs.Elements.{joint_over}
use Rattle.thread_laws.specs.RecordedThreads.{threads_at_start}
use Rattle.thread_laws.specs.Laws.{SchedulesSame}
use Rattle.thread_laws.proofs.Fresh.{starts_stand_for}
use Rattle.thread_laws.proofs.Runs.{runs_stand, told_same}
use Rattle.thread_laws.proofs.Alike.{EventLaws}

pub schedules_same : EventLaws → SchedulesSame
schedules_same laws x schedule n input is fits =
    told_same x _ _ (runs_stand laws x schedule n (joint_over (start_of (program_of x))) (threads_at_start (program_of x)) input is fits (starts_stand_for laws.states.starts x is))
