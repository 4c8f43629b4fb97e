-- The gate that starts a thread (docs/guide/walks-and-threads.md, "Starting a thread").
use Rattle.std.specs.Prelude.{ℕ, suc, ◌+◌, ◌-◌, ◌%◌, ◌^◌, ◌==◌, false, List, [], ◌∷◌, Option, Some, None, is_some, slice_index, if◌then◌else◌}
use Rattle.std.specs.Option.{option_or}
use Rattle.run_gates.specs.declared.gates.TheConstants.{NO_CALLER}
use Rattle.run_gates.specs.Gates.{r0, with_r0}
use Rattle.eh_cxa.specs.Runs.{no_globals}
use Rattle.thumb_core.specs.declared.regs.Regs.{Regs}
use Rattle.thumb_core.specs.declared.ends.TrapKind.TheVariants as kind
use Rattle.thumb_core.specs.declared.ends.End.{End}
use Rattle.thumb_core.specs.declared.ends.End.TheVariants as the_end
use Rattle.eh_gates.specs.declared.state.Core.{Core}
use Rattle.eh_gates.specs.declared.state.Turned.{Turned}
use Rattle.eh_gates.specs.declared.state.Turned.TheVariants.{Went, Ended}
use Rattle.eh_gates.specs.State.{at_next}
use Rattle.sim_machines.specs.Program.{Program}
use Rattle.sim_machines.specs.Machine.{fell_off}
use Rattle.thread_memory.specs.Homes.{home_of}
use Rattle.eh_threads.specs.declared.starting.TheConstants.{NO_THREAD}
use Rattle.eh_threads.specs.declared.thread.Thread.{Thread}
use Rattle.eh_threads.specs.Threads.{put_thread}

-- ---- refusals

-- the address after the gate's instruction
abbrev pub next_pc : Regs → ℕ
next_pc regs = (regs.pc + 2) % 2 ^ 32

-- r0 has to be a function's start with bit 0 set
abbrev pub target_refusal : Program → ℕ → ℕ → Option End
target_refusal p pc target =
    if target % 2 == 0 then Some (the_end.Trap kind.EvenTarget target pc)
    else (if (p.look (target - 1)).is_function then None else Some (the_end.Trap kind.BadCallTarget (target - 1) pc))

-- the run goes on after the gate, so no function may begin there
abbrev pub start_refusal : Program → Regs → Option End
start_refusal p regs = option_or (fell_off p regs.pc (next_pc regs)) (target_refusal p regs.pc (r0 regs))

-- ---- a new thread

-- the number of the first thread that was never started, among the threads from a number on
abbrev pub first_unstarted : ℕ → List (Option Thread) → Option ℕ
first_unstarted number [] = None
first_unstarted number (t ∷ more) = if is_some t then first_unstarted (suc number) more else Some number

-- The registers of a new thread: it begins at a function, with one argument, and sp is the end of its home. When that function returns the
-- thread ends.
abbrev pub new_regs : ℕ → ℕ → ℕ → Regs
new_regs number target argument = record {
  r = argument ∷ 0 ∷ 0 ∷ 0 ∷ 0 ∷ 0 ∷ 0 ∷ 0 ∷ 0 ∷ 0 ∷ 0 ∷ 0 ∷ 0 ∷ (home_of number).1 ∷ NO_CALLER ∷ [];
  pc = target;
  n = false;
  z = false;
  c = false;
  v = false;
}

-- the new thread has no exceptions
abbrev pub new_core : ℕ → ℕ → ℕ → Core
new_core number target argument = record { regs = new_regs number target argument; globals = no_globals }

-- the gate's answer, and the threads with the new one, if one is left to be started
abbrev pub start_thread : ℕ → ℕ → List (Option Thread) → Option ℕ → ℕ × List (Option Thread)
start_thread target argument threads None = (NO_THREAD, threads)
start_thread target argument threads (Some number) = (number, put_thread threads number (new_core number target argument) None)

-- ---- the gate

-- whether the run goes on, and the new threads
abbrev pub Outcome : Type 0
Outcome = Turned × List (Option Thread)

-- the thread that asks goes on after the gate, with the answer in r0
abbrev pub with_gate_answer : Core → ℕ → Core
with_gate_answer core x = record core { regs = at_next (next_pc core.regs) (with_r0 x core.regs) }

abbrev pub go_on_with_thread : ℕ → Core → ℕ × List (Option Thread) → Outcome
go_on_with_thread thread core new = (Went, put_thread new.1 thread (with_gate_answer core new.0) None)

abbrev pub unless_refused : Option End → ℕ → Core → List (Option Thread) → Outcome
unless_refused (Some end) thread core threads = (Ended end, put_thread threads thread core None)
unless_refused None thread core threads =
    go_on_with_thread thread core (start_thread (r0 core.regs - 1) (slice_index core.regs.r 1) threads (first_unstarted 0 threads))

-- the gate, for a thread with the registers before its instruction
abbrev pub start_gate : Program → ℕ → Core → List (Option Thread) → Outcome
start_gate p thread core threads = unless_refused (start_refusal p core.regs) thread core threads
