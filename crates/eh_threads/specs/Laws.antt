-- What elements of a schedule do to the threads (docs/guide/walks-and-threads.md, "What is proved").
use Rattle.std.specs.Prelude.{◌≡◌, ℕ, ◌-◌, List, [], ◌∷◌, Option, Some, None, slice_index, slice_index_or}
use Rattle.run_events.specs.Runs.{Event, Goes, Ends}
use Rattle.run_gates.specs.Gates.{r0}
use Rattle.thumb_core.specs.declared.ends.End.{End}
use Rattle.eh_gates.specs.declared.state.Core.{Core}
use Rattle.eh_gates.specs.declared.state.Turned.TheVariants.{Went}
use Rattle.eh_gates.specs.State.{State}
use Rattle.sim_machines.specs.Program.{Program}
use Rattle.sim_machines.specs.Machine.{machine_event}
use Rattle.sim_machines.specs.Checked.{program_of}
use Rattle.sim_machines.specs.Activations.{Recorded}
use Rattle.sim_machines.specs.ActivationMachine.{recorded_event}
use Rattle.eh_machine.specs.sim_relation.Stands.{IsProgram, StandsFor}
use Rattle.eh_machine.specs.sim_runs.Turned.{AreBytes}
use Rattle.frame_check.specs.Accepts.{Accepted}
use Rattle.eh_threads.specs.declared.starting.TheConstants.{START_GATE, NO_THREAD}
use Rattle.eh_threads.specs.declared.thread.Thread.{Thread}
use Rattle.eh_threads.specs.Threads.{core_of, exit_number_of_all, exit_number, put_thread}
use Rattle.eh_threads.specs.Starting.{with_gate_answer, new_core, start_gate, start_refusal}
use Rattle.eh_threads.specs.Elements.{Joint, switch_to, state_in, core_in, with_event, element}

-- the threads after an element, whether the run goes on or not
abbrev pub threads_of : Event Joint End → List (Option Thread)
threads_of (Goes w text left) = w.threads
threads_of (Ends end w) = w.threads

abbrev pub thread_of_number : List (Option Thread) → ℕ → Option Thread
thread_of_number threads number = slice_index_or threads number None

-- ---- the named thread

-- an element of a thread that has ended or was never started is passed over: nothing changes, nothing is written or taken
abbrev pub OthersPassOver : Type 0
OthersPassOver =
    (p : Program) (thread : ℕ) (w : Joint) (input : List ℕ) → core_of (thread_of_number w.threads thread) ≡ None → element p (Some thread) w input ≡ Goes w [] input

-- if the event of the machine that unwinds goes on, on the thread's state, so does the element, with the same output and the same rest of
-- the input
abbrev pub EventsAreTheMachines : Type 0
EventsAreTheMachines =
    (p : Program) (thread : ℕ) (w : Joint) (core : Core) (input text left : List ℕ) (b : State)
    → core_of (thread_of_number w.threads thread) ≡ Some core → machine_event p (state_in core (switch_to thread w)) input ≡ Goes b text left
    → element p (Some thread) w input ≡ Goes (with_event thread b (put_thread w.threads thread (core_in b) None) (switch_to thread w)) text left

-- If the machine with recorded activations goes on from a state that the thread's own stands for, so does the element, and the states after
-- it stand for each other. So each throw of a thread goes over the thread's own activations.
pub record EventFollows (x : Accepted) (thread : ℕ) (w : Joint) (t : Recorded) (input text left : List ℕ) : Type 0 where
  pub bytes : State
  pub goes :
      element (program_of x) (Some thread) w input
      ≡ Goes (with_event thread bytes (put_thread w.threads thread (core_in bytes) None) (switch_to thread w)) text left
  pub stands : StandsFor x bytes t

abbrev pub OwnEventsFollow : Type 0
OwnEventsFollow =
    (x : Accepted) (thread : ℕ) (w : Joint) (core : Core) (s t : Recorded) (input text left : List ℕ) → IsProgram x → AreBytes input
    → core_of (thread_of_number w.threads thread) ≡ Some core → StandsFor x (state_in core (switch_to thread w)) s
    → recorded_event (program_of x) s input ≡ Goes t text left → EventFollows x thread w t input text left

-- ---- the others

-- a started thread is unchanged by an element of another thread, whether it has ended or not
abbrev pub OthersStand : Type 0
OthersStand =
    (p : Program) (thread other : ℕ) (w : Joint) (input : List ℕ) (t : Thread) → (other ≡ thread → ⊥) → thread_of_number w.threads other ≡ Some t
    → thread_of_number (threads_of (element p (Some thread) w input)) other ≡ Some t

-- ---- starts

-- After two threads the next one is the third: it begins at the function with its argument, and the thread that asked goes on.
abbrev pub ThirdStarts : Type 0
ThirdStarts =
    (p : Program) (core : Core) (one two : Thread) → start_refusal p core.regs ≡ None
    → start_gate p 0 core (Some one ∷ Some two ∷ None ∷ None ∷ [])
    ≡ (
      Went,
      Some (record { core = with_gate_answer core 2; ended = None }) ∷ Some two
          ∷ Some (record { core = new_core 2 (r0 core.regs - 1) (slice_index core.regs.r 1); ended = None }) ∷ None ∷ [],
    )

-- after four were started no further one starts, even if some of them have ended
abbrev pub NoFifthStarts : Type 0
NoFifthStarts =
    (p : Program) (core : Core) (one two three four : Thread) → start_refusal p core.regs ≡ None
    → start_gate p 0 core (Some one ∷ Some two ∷ Some three ∷ Some four ∷ [])
    ≡ (Went, Some (record { core = with_gate_answer core NO_THREAD; ended = None }) ∷ Some two ∷ Some three ∷ Some four ∷ [])

-- ---- the end

-- when the run is over no thread runs, and its number is that of thread 0
pub record IsOver (threads : List (Option Thread)) (number : ℕ) : Type 0 where
  pub none : (thread : ℕ) → core_of (thread_of_number threads thread) ≡ None
  pub first : exit_number (thread_of_number threads 0) ≡ Some number

abbrev pub OverWhereAllEnded : Type 0
OverWhereAllEnded = (threads : List (Option Thread)) (number : ℕ) → exit_number_of_all threads ≡ Some number → IsOver threads number

-- ---- in digits

pub record InDigits : Type 0 where
  pub gate : START_GATE ≡ 32
  pub none : NO_THREAD ≡ 4294967295
