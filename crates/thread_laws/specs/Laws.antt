-- Threads over bytes and with recorded activations do the same (docs/guide/walks-and-threads.md, "Threads with recorded activations").
use Rattle.std.specs.Prelude.{◌≡◌, ℕ, ◌%◌, ◌^◌, ◌+◌, ◌<◌, ◌≤◌, ◌==◌, true, List, length, Some, Err}
use Rattle.run_events.specs.Laws.{SameRan}
use Rattle.eh_bus.specs.Lists.{Has}
use Rattle.eh_bus.specs.Memory.{store, store_run}
use Rattle.eh_bus.specs.Place.{IsWidth}
use Rattle.eh_bus.specs.declared.fault.BusFault.TheVariants.{SavedSlot}
use Rattle.frame_check.specs.Accepts.{Accepted}
use Rattle.sim_machines.specs.Checked.{program_of}
use Rattle.sim_machines.specs.Start.{start_of}
use Rattle.mem_laws.specs.Runs.{word_address, CanStore}
use Rattle.sim_relation.specs.Stands.{IsProgram, StandsFor}
use Rattle.sim_runs.specs.Turned.{AreBytes}
use Rattle.eh_threads.specs.Elements.{Joint, switch_to, state_in, joint_over}
use Rattle.eh_threads.specs.Schedules.{SchedulePoint, schedule_run}
use Rattle.thread_laws.specs.RecordedThreads.{RecordedThread, RecordedThreads, RecordedPlace, without_record, slots_in, thread_in, state_for, threads_at_start, recorded_schedule_run, bytes_observation, recorded_observation}
use Rattle.thread_laws.specs.Standing.{ThreadsStand}

-- ---- states

-- the state of each started thread, when it is entered, stands for its own recorded state
abbrev pub EachStands : Type 0
EachStands =
    (x : Accepted) (w : Joint) (v : RecordedThreads) (thread : ℕ) (t : RecordedThread) → ThreadsStand x w v → thread_in v thread ≡ Some t
    → StandsFor x (state_in (without_record t).core (switch_to thread w)) (state_for thread t v)

-- a store of one, two or four bytes to a slot of any thread's activation is refused with that slot's address and stores nothing, whichever
-- thread stores
abbrev pub SlotsAreGuarded : Type 0
SlotsAreGuarded =
    (x : Accepted) (w : Joint) (v : RecordedThreads) (thread : ℕ) (t : RecordedThread) (other width a value g : ℕ) → ThreadsStand x w v
    → thread_in v thread ≡ Some t → IsWidth width → (a % width == 0) ≡ true → Has (slots_in (thread_in v other)) g → g ≤ a → a < g + 4
    → store width (switch_to thread w).memory a value ≡ (Err (SavedSlot g), (switch_to thread w).memory)

-- words stored upwards, as PUSH and STM store them: if the first that can't be stored is such a slot, none is stored
abbrev pub SlotsStopRuns : Type 0
SlotsStopRuns =
    (x : Accepted) (w : Joint) (v : RecordedThreads) (thread : ℕ) (t : RecordedThread) (other a : ℕ) (words : List ℕ) (k : ℕ) → ThreadsStand x w v
    → thread_in v thread ≡ Some t → a < 2 ^ 32 → k < length words → CanStore (switch_to thread w).memory a words k
    → Has (slots_in (thread_in v other)) (word_address a k)
    → store_run (switch_to thread w).memory a words ≡ (Err (SavedSlot (word_address a k)), (switch_to thread w).memory)

-- ---- whole runs

-- the threads of both runs stand for each other, at the same place of the schedule
pub record PlacesStand (x : Accepted) (s : SchedulePoint) (t : RecordedPlace) : Type 0 where
  pub threads : ThreadsStand x s.joint t.threads
  pub at : s.at ≡ t.at

-- from such states a run has the same output, the same end and the same rest of the input, and leaves such states
abbrev pub RunsStand : Type 0
RunsStand =
    (x : Accepted) (schedule : List ℕ) (n : ℕ) (w : Joint) (v : RecordedThreads) (input : List ℕ) → IsProgram x → AreBytes input
    → ThreadsStand x w v
    → SameRan (PlacesStand x) (schedule_run (program_of x) schedule n w input) (recorded_schedule_run (program_of x) schedule n v input)

-- both start in such states
abbrev pub StartsStand : Type 0
StartsStand = (x : Accepted) → IsProgram x → ThreadsStand x (joint_over (start_of (program_of x))) (threads_at_start (program_of x))

-- The report of a run of threads over bytes is the report of the run with recorded activations. For every accepted image, schedule, budget
-- and input of bytes, the output, the events with their threads, the end and the rest of the input are the same.
abbrev pub SchedulesSame : Type 0
SchedulesSame =
    (x : Accepted) (schedule : List ℕ) (n : ℕ) (input : List ℕ) → IsProgram x → AreBytes input
    → bytes_observation (schedule_run (program_of x) schedule n (joint_over (start_of (program_of x))) input)
    ≡ recorded_observation (recorded_schedule_run (program_of x) schedule n (threads_at_start (program_of x)) input)
