-- What happens to the threads when an event of one of them ends (docs/guide/walks-and-threads.md, "Ends and runs").
use Rattle.std.specs.Prelude.{ℕ, ◌==◌, Bool, false, List, Option, Some, None, if◌then◌else◌}
use Rattle.thumb_core.specs.declared.ends.TrapKind.{TrapKind}
use Rattle.thumb_core.specs.declared.ends.TrapKind.TheVariants.{UnknownGate}
use Rattle.thumb_core.specs.declared.ends.End.{End}
use Rattle.thumb_core.specs.declared.ends.End.TheVariants.{Exit, Terminate, Trap, Budget, ReadFault, WriteFault}
use Rattle.eh_gates.specs.declared.state.Core.{Core}
use Rattle.eh_gates.specs.declared.state.Turned.{Turned}
use Rattle.eh_gates.specs.declared.state.Turned.TheVariants.{Went, Ended}
use Rattle.sim_machines.specs.Program.{Program}
use Rattle.eh_threads.specs.declared.starting.TheConstants.{START_GATE}
use Rattle.eh_threads.specs.declared.thread.Thread.{Thread}
use Rattle.eh_threads.specs.Threads.{exit_number_of_all, put_thread}
use Rattle.eh_threads.specs.Starting.{Outcome, start_gate}

-- a thread that exits ends alone, unless it was the last running thread
abbrev pub unless_over : Option ℕ → List (Option Thread) → Outcome
unless_over None threads = (Went, threads)
unless_over (Some number) threads = (Ended (Exit number), threads)

abbrev pub thread_ends : ℕ → Core → ℕ → List (Option Thread) → Outcome
thread_ends thread core number threads =
    unless_over (exit_number_of_all (put_thread threads thread core (Some number))) (put_thread threads thread core (Some number))

-- the machine of one thread knows no gate of that number
abbrev pub is_start_gate : TrapKind → ℕ → Bool
is_start_gate UnknownGate value = value == START_GATE
is_start_gate kind value = false

-- any other end ends the run, and the thread stays where it was
abbrev pub stop_thread : ℕ → Core → End → List (Option Thread) → Outcome
stop_thread thread core end threads = (Ended end, put_thread threads thread core None)

abbrev pub after_end : Program → ℕ → Core → End → List (Option Thread) → Outcome
after_end p thread core (Exit number) threads = thread_ends thread core number threads
after_end p thread core (Trap kind value pc) threads =
    if is_start_gate kind value then start_gate p thread core threads else stop_thread thread core (Trap kind value pc) threads
after_end p thread core (Terminate cause) threads = stop_thread thread core (Terminate cause) threads
after_end p thread core Budget threads = stop_thread thread core Budget threads
after_end p thread core ReadFault threads = stop_thread thread core ReadFault threads
after_end p thread core WriteFault threads = stop_thread thread core WriteFault threads

-- after an event of a thread that left this core
abbrev pub turn_outcome : Program → ℕ → Core → Turned → List (Option Thread) → Outcome
turn_outcome p thread core Went threads = (Went, put_thread threads thread core None)
turn_outcome p thread core (Ended end) threads = after_end p thread core end threads
