-- Which states of threads over bytes stand for which states of threads with recorded activations
-- (docs/guide/walks-and-threads.md, "Threads with recorded activations").
use Rattle.std.specs.Prelude.{◌≡◌, ◌⊎◌, ℕ, ◌<◌, ◌==◌, not, Bool, true, false, List, [], ◌∷◌, ◌++◌, length, map, Option, Some, None, slice_index_or}
use Rattle.eh_bus.specs.Guards.{insert_all}
use Rattle.eh_bus.specs.Map.{IsMap, SameMap}
use Rattle.eh_bus.specs.Memory.{Memory}
use Rattle.eh_cxa.specs.States.{code}
use Rattle.eh_cxa.specs.Words.{word}
use Rattle.eh_cxa.specs.declared.layout.TheConstants.{SLOTS, STATE}
use Rattle.eh_cxa.specs.declared.state.TheConstants.{FREE}
use Rattle.frame_check.specs.Accepts.{Accepted}
use Rattle.run_images.specs.Start.{image_start}
use Rattle.sim_machines.specs.Activations.{state_word}
use Rattle.sim_relation.specs.Stands.{Keeps}
use Rattle.thread_memory.specs.Homes.{home_of}
use Rattle.thread_memory.specs.declared.homes.TheConstants.{THREADS}
use Rattle.thread_memory.specs.declared.owners.Holding.{Holding}
use Rattle.eh_threads.specs.Elements.{Joint}
use Rattle.thread_laws.specs.RecordedThreads.{RecordedThread, RecordedThreads, OwnedException, entry_for, slots_in, state_for, bare_threads, thread_in}

-- what is recorded of a slot besides its memory
abbrev pub holding : Option OwnedException → Holding
holding None = record { owner = None; state = FREE }
holding (Some o) = record { owner = Some o.owner; state = code o.exception.state }

-- another thread's exception
abbrev pub is_others : ℕ → Option OwnedException → Bool
is_others thread None = false
is_others thread (Some o) = not (o.owner == thread)

-- a slot while one thread runs: another thread's exception is unchanged, and otherwise the slot is free or that thread's
abbrev pub MovesSlot : ℕ → Option OwnedException → Option OwnedException → Type 0
MovesSlot thread old new = ((is_others thread old ≡ true) × (new ≡ old)) ⊎ ((is_others thread old ≡ false) × (is_others thread new ≡ false))

abbrev pub AllMoved : ℕ → List (Option OwnedException) → List (Option OwnedException) → Type 0
AllMoved thread [] [] = Unit {0}
AllMoved thread (o ∷ old) (n ∷ new) = MovesSlot thread o n × AllMoved thread old new
AllMoved thread [] (n ∷ new) = ⊥
AllMoved thread (o ∷ old) [] = ⊥

-- the recorded owners are those of the pool when the running thread was entered
pub record OwnersStand (thread : ℕ) (owners : List Holding) (pool : List (Option OwnedException)) : Type 0 where
  pub at_entry : List (Option OwnedException)
  pub kept : owners ≡ map holding at_entry
  pub moved : AllMoved thread at_entry pool

-- the slots of all activations
abbrev pub all_slots : List (Option RecordedThread) → List ℕ
all_slots [] = []
all_slots (t ∷ more) = slots_in t ++ all_slots more

-- all of these slots are guarded, and the running stack is a thread's home
abbrev pub memory_for : ℕ → RecordedThreads → Memory
memory_for thread v = record { segments = v.segments; guards = insert_all (all_slots v.threads) []; home = home_of thread }

pub record ThreadsStand (x : Accepted) (w : Joint) (v : RecordedThreads) : Type 0 where
  pub threads : w.threads ≡ bare_threads v.threads
  pub numbered : length v.threads ≡ THREADS
  pub events : w.events ≡ v.events
  pub tags : w.tags ≡ v.tags
  pub sized : length v.pool ≡ SLOTS
  pub entered : w.entered < THREADS
  -- the memory is one that a bus may have, as the entered thread sees it
  pub map : IsMap (memory_for w.entered v)
  -- .. and read-only bytes are as at the start
  pub image : SameMap (image_start x.image).memory.segments v.segments
  pub memory : w.memory ≡ memory_for w.entered v
  -- the state words are as the entered thread is to see them
  pub states : (n : ℕ) → n < SLOTS → word w.memory n STATE ≡ state_word (entry_for w.entered (slice_index_or v.pool n None))
  pub owners : OwnersStand w.entered w.owners v.pool
  -- each exception belongs to a started thread
  pub owned : (n : ℕ) (o : OwnedException) → slice_index_or v.pool n None ≡ Some o → (t : RecordedThread) × (thread_in v o.owner ≡ Some t)
  -- the invariants of a state with recorded activations hold for each thread's state
  pub keeps : (thread : ℕ) (t : RecordedThread) → thread_in v thread ≡ Some t → Keeps x (state_for thread t v)
