-- The state of threads that share a memory, and one element of a schedule (docs/guide/walks-and-threads.md, "Ends and runs").
use Rattle.std.specs.Prelude.{ℕ, ◌==◌, List, [], ◌∷◌, length, Option, Some, None, if◌then◌else◌}
use Rattle.run_events.specs.Runs.{Event, Goes, Ends}
use Rattle.eh_bus.specs.Memory.{Memory}
use Rattle.eh_cxa.specs.Words.{word}
use Rattle.eh_cxa.specs.declared.layout.TheConstants.{SLOTS}
use Rattle.eh_trace.specs.Trace.{Trace}
use Rattle.thumb_core.specs.declared.ends.End.{End}
use Rattle.eh_gates.specs.declared.state.Core.{Core}
use Rattle.eh_gates.specs.declared.state.Turned.{Turned}
use Rattle.eh_gates.specs.declared.state.Turned.TheVariants.{Went, Ended}
use Rattle.eh_gates.specs.State.{State, state_of}
use Rattle.frame_check.specs.Accepts.{Accepted}
use Rattle.eh_machine.specs.Ready.{CachedImage}
use Rattle.sim_machines.specs.Program.{Program}
use Rattle.sim_machines.specs.Machine.{machine_event}
use Rattle.thread_memory.specs.Owners.{unowned_from, owners_after, switch_thread}
use Rattle.thread_memory.specs.Seen.{thread_view}
use Rattle.thread_memory.specs.declared.owners.Holding.{Holding}
use Rattle.eh_threads.specs.declared.thread.Thread.{Thread}
use Rattle.eh_threads.specs.Threads.{running, put_thread}
use Rattle.eh_threads.specs.Starting.{Outcome}
use Rattle.eh_threads.specs.Ending.{after_end}
use Rattle.eh_threads.specs.Tags.{tags_up_to}

-- ---- the state

-- the decode cache of this image
abbrev pub cache_for_image : Accepted → CachedImage → CachedImage
cache_for_image image turns = record { image = image; cache = turns.cache }

-- The threads by number; the one that is entered; what each slot of the pool held when it was entered; the memory as that thread sees it;
-- the events of all threads, and the thread of each event that is kept.
pub record Joint : Type 0 where
  pub threads : List (Option Thread)
  pub entered : ℕ
  pub owners : List Holding
  pub memory : Memory
  pub events : Trace
  pub tags : List ℕ

abbrev pub joint_of : List (Option Thread) → ℕ → List Holding → Memory → Trace → List ℕ → Joint
joint_of threads entered owners memory events tags =
    record { threads = threads; entered = entered; owners = owners; memory = memory; events = events; tags = tags }

-- ---- another thread is entered

abbrev pub owners_at_switch : ℕ → ℕ → Memory → List Holding → List Holding
owners_at_switch thread entered m owners = if thread == entered then owners else owners_after entered (word m) owners

abbrev pub memory_at_switch : ℕ → ℕ → Memory → List Holding → Memory
memory_at_switch thread entered m owners = if thread == entered then m else switch_thread entered thread (owners_after entered (word m) owners) m

-- if the same thread goes on, nothing is done
abbrev pub switch_to : ℕ → Joint → Joint
switch_to thread w = record {
  threads = w.threads;
  entered = thread;
  owners = owners_at_switch thread w.entered w.memory w.owners;
  memory = memory_at_switch thread w.entered w.memory w.owners;
  events = w.events;
  tags = w.tags;
}

-- ---- an event of a thread

-- the state in which a thread's event begins
abbrev pub state_in : Core → Joint → State
state_in core w = state_of core w.memory w.events

abbrev pub core_in : State → Core
core_in b = record { regs = b.regs; globals = b.globals }

-- the threads after an event that left this state
abbrev pub with_event : ℕ → State → List (Option Thread) → Joint → Joint
with_event thread b threads w = record {
  threads = threads;
  entered = w.entered;
  owners = w.owners;
  memory = b.memory;
  events = b.events;
  tags = tags_up_to thread (length b.events.kept) w.tags;
}

abbrev pub event_of : Turned → Joint → List ℕ → Event Joint End
event_of Went w input = Goes w [] input
event_of (Ended end) w input = Ends end w

abbrev pub by_outcome : ℕ → State → Joint → Outcome → List ℕ → Event Joint End
by_outcome thread b w outcome input = event_of outcome.0 (with_event thread b outcome.1 w) input

abbrev pub after_event : Program → ℕ → Joint → Event State End → List ℕ → Event Joint End
after_event p thread w (Goes b text left) input = Goes (with_event thread b (put_thread w.threads thread (core_in b) None) w) text left
after_event p thread w (Ends end b) input = by_outcome thread b w (after_end p thread (core_in b) end w.threads) input

abbrev pub event_in : Program → ℕ → Core → Joint → List ℕ → Event Joint End
event_in p thread core w input = after_event p thread w (machine_event p (state_in core w) input) input

-- ---- an element

-- an element whose thread doesn't run is passed over
abbrev pub element_of : Program → Joint → List ℕ → Option (ℕ × Core) → Event Joint End
element_of p w input None = Goes w [] input
element_of p w input (Some found) = event_in p found.0 found.1 (switch_to found.0 w) input

unfoldable pub element : Program → Option ℕ → Joint → List ℕ → Event Joint End
element p thread w input = element_of p w input (running w.threads thread)

-- ---- the start

-- thread 0 alone
abbrev pub first_alone : Core → List (Option Thread)
first_alone core = Some (record { core = core; ended = None }) ∷ None ∷ None ∷ None ∷ []

-- thread 0 with a core, over a memory without guarded words; every slot of the pool is nobody's, and no event has a tag
abbrev pub joint_over : State → Joint
joint_over b = joint_of (first_alone (core_in b)) 0 (unowned_from (word b.memory) 0 SLOTS) (thread_view b.memory [] 0) b.events []
