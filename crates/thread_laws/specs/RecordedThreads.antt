-- Threads with recorded activations that run by a schedule (docs/guide/walks-and-threads.md, "Threads with recorded activations"). Each has its own activations and
-- lists; they share one memory, one pool of exceptions, one output and one list of events.
use Rattle.std.specs.Prelude.{ℕ, suc, ◌-◌, ◌==◌, List, [], ◌∷◌, ◌++◌, length, map, replicate, Option, Some, None, slice_index, slice_index_or, slice_set, if◌then◌else◌}
use Rattle.run_events.specs.Runs.{Event, Goes, Ends, Ran, run}
use Rattle.eh_bus.specs.Segment.{Segment}
use Rattle.eh_cxa.specs.Lists.{Record, Entry, Free, OutOfUse, Live, slots}
use Rattle.eh_cxa.specs.Words.{Write, write, set_slot_words}
use Rattle.eh_cxa.specs.declared.layout.TheConstants.{SLOTS, STATE}
use Rattle.eh_gates.specs.State.{at_next}
use Rattle.eh_trace.specs.Trace.{Trace, no_events}
use Rattle.run_gates.specs.Gates.{r0, with_r0}
use Rattle.thumb_core.specs.declared.regs.TheConstants.{LR, SP}
use Rattle.thumb_core.specs.declared.regs.Regs.{Regs}
use Rattle.thumb_core.specs.declared.ends.End.{End}
use Rattle.thumb_core.specs.declared.ends.End.TheVariants.{Exit, Terminate, Trap, Budget, ReadFault, WriteFault}
use Rattle.sim_machines.specs.Program.{Program}
use Rattle.sim_machines.specs.Start.{start_of}
use Rattle.sim_machines.specs.Activations.{Activation, InProgress, Recorded, callee, cleanups_in, head_of, slots_of, state_word}
use Rattle.sim_machines.specs.ActivationMachine.{recorded_event}
use Rattle.thread_memory.specs.Homes.{home_of}
use Rattle.eh_threads.specs.declared.starting.TheConstants.{NO_THREAD}
use Rattle.eh_threads.specs.declared.thread.Thread.{Thread}
use Rattle.eh_threads.specs.Threads.{exit_number_of_all}
use Rattle.eh_threads.specs.Starting.{next_pc, new_regs, start_refusal, first_unstarted}
use Rattle.eh_threads.specs.Ending.{is_start_gate}
use Rattle.eh_threads.specs.Schedules.{SchedulePoint, thread_at, place_after}
use Rattle.eh_threads.specs.Tags.{tags_up_to}

-- ---- the state

-- a started thread: registers, the caught stack, the cleanups in progress, the number of its uncaught exceptions, its activations, and the
-- number that it ended with, if it did
pub record RecordedThread : Type 0 where
  pub regs : Regs
  pub caught : List ℕ
  pub cleanups : List InProgress
  pub uncaught : ℕ
  pub first : Activation
  pub outer : List Activation
  pub ended : Option ℕ

-- an exception, and the thread that allocated it
pub record OwnedException : Type 0 where
  pub owner : ℕ
  pub exception : Record

-- The threads by number, with None for one that was never started; the slots of the pool, with None for a free one; the memory; the events
-- of all threads, and the thread of each event that is kept.
pub record RecordedThreads : Type 0 where
  pub threads : List (Option RecordedThread)
  pub pool : List (Option OwnedException)
  pub segments : List Segment
  pub events : Trace
  pub tags : List ℕ

-- ---- what a thread has of it

-- a slot with another thread's exception is out of use
abbrev pub entry_for : ℕ → Option OwnedException → Entry
entry_for thread None = Free
entry_for thread (Some o) = if o.owner == thread then Live o.exception else OutOfUse

abbrev pub entries_for : ℕ → List (Option OwnedException) → List Entry
entries_for thread pool = map (entry_for thread) pool

-- the state words of all slots from one on, as a thread reads them
abbrev pub states_from : ℕ → List Entry → List Write
states_from slot [] = []
states_from slot (e ∷ more) = write slot STATE (state_word e) ∷ states_from (suc slot) more

abbrev pub with_states : List Entry → List Segment → List Segment
with_states entries segments = (set_slot_words (states_from 0 entries) (record { segments = segments; guards = []; home = home_of 0 })).segments

-- the slots of a thread's activations, also of one that has ended
abbrev pub slots_in : Option RecordedThread → List ℕ
slots_in None = []
slots_in (Some t) = slots_of (t.first ∷ t.outer)

-- the slots of all threads but one, from a number on
abbrev pub slots_beside : ℕ → ℕ → List (Option RecordedThread) → List ℕ
slots_beside thread number [] = []
slots_beside thread number (t ∷ more) = (if number == thread then [] else slots_in t) ++ slots_beside thread (suc number) more

-- The state in which a thread's event is done. It has the thread's own registers, lists and activations, and its home as the running stack.
-- The slots of the other threads' activations are guarded words beyond it.
abbrev pub state_for : ℕ → RecordedThread → RecordedThreads → Recorded
state_for thread t v = record {
  regs = t.regs;
  entries = entries_for thread v.pool;
  caught = t.caught;
  cleanups = t.cleanups;
  uncaught = t.uncaught;
  segments = with_states (entries_for thread v.pool) v.segments;
  home = home_of thread;
  events = v.events;
  first = t.first;
  outer = t.outer;
  beyond = slots_beside thread 0 v.threads;
}

-- ---- what an event of a thread leaves

-- a slot that was out of use for the thread is unchanged; any exception in another slot is the thread's own
abbrev pub owned_by_entry : ℕ → Entry → Option OwnedException → Option OwnedException
owned_by_entry thread Free old = None
owned_by_entry thread OutOfUse old = old
owned_by_entry thread (Live r) old = Some (record { owner = thread; exception = r })

abbrev pub pool_after : ℕ → List Entry → List (Option OwnedException) → List (Option OwnedException)
pool_after thread [] olds = []
pool_after thread (e ∷ more) [] = []
pool_after thread (e ∷ more) (old ∷ olds) = owned_by_entry thread e old ∷ pool_after thread more olds

abbrev pub thread_from : Recorded → Option ℕ → RecordedThread
thread_from s ended = record {
  regs = s.regs;
  caught = s.caught;
  cleanups = s.cleanups;
  uncaught = s.uncaught;
  first = s.first;
  outer = s.outer;
  ended = ended;
}

-- the other threads are as they were
abbrev pub with_state : ℕ → Option ℕ → Recorded → RecordedThreads → RecordedThreads
with_state thread ended s v = record {
  threads = slice_set v.threads thread (Some (thread_from s ended));
  pool = pool_after thread s.entries v.pool;
  segments = s.segments;
  events = s.events;
  tags = tags_up_to thread (length s.events.kept) v.tags;
}

-- ---- which threads run

-- a thread without its activations: registers and the heads of its chains
abbrev pub without_record : RecordedThread → Thread
without_record t = record {
  core = record {
    regs = t.regs;
    globals = record { caught = head_of t.caught; cleanup = head_of (slots (cleanups_in t.cleanups)); uncaught = t.uncaught };
  };
  ended = t.ended;
}

abbrev pub bare_option : Option RecordedThread → Option Thread
bare_option None = None
bare_option (Some t) = Some (without_record t)

abbrev pub bare_threads : List (Option RecordedThread) → List (Option Thread)
bare_threads threads = map bare_option threads

abbrev pub unless_ended : RecordedThread → Option ℕ → Option RecordedThread
unless_ended t None = Some t
unless_ended t (Some number) = None

-- a thread that was started and hasn't ended
abbrev pub running_thread : Option RecordedThread → Option RecordedThread
running_thread None = None
running_thread (Some t) = unless_ended t t.ended

abbrev pub with_thread_number : ℕ → Option RecordedThread → Option (ℕ × RecordedThread)
with_thread_number thread None = None
with_thread_number thread (Some t) = Some (thread, t)

abbrev pub thread_in : RecordedThreads → ℕ → Option RecordedThread
thread_in v thread = slice_index_or v.threads thread None

-- the named thread, if it runs
abbrev pub running : RecordedThreads → Option ℕ → Option (ℕ × RecordedThread)
running v None = None
running v (Some thread) = with_thread_number thread (running_thread (thread_in v thread))

-- ---- a thread starts

-- at a function's start: one activation, which nobody called, and no exceptions
abbrev pub new_recorded_thread : Regs → RecordedThread
new_recorded_thread regs = record {
  regs = regs;
  caught = [];
  cleanups = [];
  uncaught = 0;
  first = record { function = regs.pc; caller = record { back = slice_index regs.r LR; sp = slice_index regs.r SP; saved = callee regs.r }; slots = [] };
  outer = [];
  ended = None;
}

-- the thread that asks goes on after the gate, with the answer in r0
abbrev pub with_gate_answer : ℕ → Recorded → Recorded
with_gate_answer x s = record s { regs = at_next (next_pc s.regs) (with_r0 x s.regs) }

-- The first thread that was never started begins, at the function of r0 with r1 as its argument. If there is none, nothing begins.
abbrev pub with_new : Option ℕ → ℕ → Recorded → RecordedThreads → RecordedThreads
with_new None thread s v = with_state thread None (with_gate_answer NO_THREAD s) v
with_new (Some number) thread s v =
    with_state thread None (with_gate_answer number s)
    (record v { threads = slice_set v.threads number (Some (new_recorded_thread (new_regs number (r0 s.regs - 1) (slice_index s.regs.r 1)))) })

abbrev pub unless_refused : Option End → ℕ → Recorded → RecordedThreads → List ℕ → Event RecordedThreads End
unless_refused (Some end) thread s v input = Ends end (with_state thread None s v)
unless_refused None thread s v input = Goes (with_new (first_unstarted 0 (bare_threads v.threads)) thread s v) [] input

-- ---- an element

-- a thread that exits ends alone, unless it was the last running thread
abbrev pub unless_over : Option ℕ → RecordedThreads → List ℕ → Event RecordedThreads End
unless_over None v input = Goes v [] input
unless_over (Some number) v input = Ends (Exit number) v

abbrev pub thread_exits : ℕ → ℕ → Recorded → RecordedThreads → List ℕ → Event RecordedThreads End
thread_exits thread number s v input =
    unless_over (exit_number_of_all (bare_threads (with_state thread (Some number) s v).threads)) (with_state thread (Some number) s v) input

-- any other end ends the run, except that of the gate that starts a thread
abbrev pub at_end : Program → ℕ → RecordedThreads → End → Recorded → List ℕ → Event RecordedThreads End
at_end p thread v (Exit number) s input = thread_exits thread number s v input
at_end p thread v (Trap kind value pc) s input =
    if is_start_gate kind value then unless_refused (start_refusal p s.regs) thread s v input else Ends (Trap kind value pc) (with_state thread None s v)
at_end p thread v (Terminate cause) s input = Ends (Terminate cause) (with_state thread None s v)
at_end p thread v Budget s input = Ends Budget (with_state thread None s v)
at_end p thread v ReadFault s input = Ends ReadFault (with_state thread None s v)
at_end p thread v WriteFault s input = Ends WriteFault (with_state thread None s v)

abbrev pub after_event : Program → ℕ → RecordedThreads → Event Recorded End → List ℕ → Event RecordedThreads End
after_event p thread v (Goes s text left) input = Goes (with_state thread None s v) text left
after_event p thread v (Ends end s) input = at_end p thread v end s input

-- one event of the machine with recorded activations; an element whose thread doesn't run is passed over
abbrev pub element_of : Program → RecordedThreads → List ℕ → Option (ℕ × RecordedThread) → Event RecordedThreads End
element_of p v input None = Goes v [] input
element_of p v input (Some found) = after_event p found.0 v (recorded_event p (state_for found.0 found.1 v) input) input

unfoldable pub recorded_element : Program → Option ℕ → RecordedThreads → List ℕ → Event RecordedThreads End
recorded_element p named v input = element_of p v input (running v named)

-- ---- the start, and a run

-- thread 0 alone, with no exceptions and no events
abbrev pub threads_at_start : Program → RecordedThreads
threads_at_start p = record {
  threads = Some (new_recorded_thread (start_of p).regs) ∷ None ∷ None ∷ None ∷ [];
  pool = replicate SLOTS None;
  segments = (start_of p).memory.segments;
  events = no_events;
  tags = [];
}

-- the threads, and the index of the next element
pub record RecordedPlace : Type 0 where
  pub threads : RecordedThreads
  pub at : ℕ

abbrev pub event_at_place : ℕ → Event RecordedThreads End → Event RecordedPlace End
event_at_place at (Goes v text left) = Goes (record { threads = v; at = at }) text left
event_at_place at (Ends end v) = Ends end (record { threads = v; at = at })

unfoldable pub next_element : Program → List ℕ → RecordedPlace → List ℕ → Event RecordedPlace End
next_element p schedule s input = event_at_place (place_after schedule s.at) (recorded_element p (thread_at schedule s.at) s.threads input)

-- a run begins with the first element
abbrev pub at_first : RecordedThreads → RecordedPlace
at_first v = record { threads = v; at = 0 }

abbrev pub unless_all_over : Option ℕ → ℕ → RecordedPlace → List ℕ → Ran RecordedPlace End → Ran RecordedPlace End
unless_all_over None n s input ran = ran
unless_all_over (Some number) n s input ran = record { text = []; end = Exit number; state = s; left = input; spare = n }

-- a run of at most n elements; it is over earlier if all threads have ended
unfoldable pub recorded_schedule_run : Program → List ℕ → ℕ → RecordedThreads → List ℕ → Ran RecordedPlace End
recorded_schedule_run p schedule n v input =
    unless_all_over (exit_number_of_all (bare_threads v.threads)) n (at_first v) input (run (next_element p schedule) Budget n (at_first v) input)

-- ---- what is told of a run

-- the output, the events and their threads, the end, and the rest of the input
abbrev pub Observation : Type 0
Observation = List ℕ × Trace × List ℕ × End × List ℕ

abbrev pub bytes_observation : Ran SchedulePoint End → Observation
bytes_observation r = (r.text, r.state.joint.events, r.state.joint.tags, r.end, r.left)

abbrev pub recorded_observation : Ran RecordedPlace End → Observation
recorded_observation r = (r.text, r.state.threads.events, r.state.threads.tags, r.end, r.left)
