use Rattle.std.proofs.Common.{ap}
use Rattle.cmd_perform.specs.ThreadsReport.{ThreadsAccepted}
use Rattle.thread_memory.specs.Seen.{thread_view}
use Rattle.mem_buses.specs.Paged.{memory_of}
use Rattle.eh_threads.specs.Elements.{Joint, joint_of}
use Rattle.cmd_perform.proofs.ThreadReports.{threads_yield}
use Rattle.cmd_perform.proofs.Yielding.{yields_memory}
use Rattle.cmd_perform.proofs.threads.threads_accepted.Goals as goal

pub returns : goal.returns
returns g c =
    let t = c.run_schedule-end.new.self in
    let w : Joint = joint_of t.threads t.entered t.owners.slots (thread_view (memory_of t.shared.bus.inner) t.shared.bus.guards t.shared.bus.thread) t.events t.tags in
    threads_yield c.args.accepted.now c.args.digits.now c.args.budget w c.run_schedule-end.result _ _ _ _ _ _ _ _ _ _ _
    c.threads_same.ensures (rw (c.in-Ok.ensures.program, c.in-Ok.ensures.state) at c.run_schedule-end.ensures.told) c.run_schedule-end.ensures.faults (rw c.as_slice.ensures.is at c.answer_threads.ensures)

pub returns-in-Err : goal.returns-in-Err
returns-in-Err g c = yields_memory (ThreadsAccepted c.args.digits.now c.args.budget c.args.accepted.now) ⊥ _ _ _ _

pub threads_same-requires : goal.threads_same-requires
threads_same-requires g c = record { start = ap (λ (w : Joint). w.memory.segments) c.in-Ok.ensures.state }
