-- What threads that share a memory keep from each other (docs/guide/walks-and-threads.md).
use Rattle.std.specs.Prelude.{◌≡◌, ℕ, ◌+◌, ◌%◌, ◌<◌, ◌≤◌, ◌==◌, List, length, slice_index_or, Some, None, true, Ok, Err}
use Rattle.eh_bus.specs.Lists.{Has}
use Rattle.eh_bus.specs.Map.{IsMap}
use Rattle.eh_bus.specs.Memory.{Memory, load, store, without_guards_below}
use Rattle.eh_bus.specs.Place.{IsWidth}
use Rattle.eh_bus.specs.Segment.{Apart}
use Rattle.eh_bus.specs.declared.fault.BusFault.TheVariants.{SavedSlot}
use Rattle.eh_bus.specs.declared.map.TheConstants.{STACK_END, STACK_START}
use Rattle.eh_cxa.specs.Allocate.{free_of}
use Rattle.eh_cxa.specs.Catch.{begin_catch_of}
use Rattle.eh_cxa.specs.Throw.{Throw, start_throw_of}
use Rattle.eh_cxa.specs.Words.{Pool, word, block}
use Rattle.eh_cxa.specs.declared.globals.CxaFault.TheVariants.{BadObject, BadUcb}
use Rattle.eh_cxa.specs.declared.globals.Globals.{Globals}
use Rattle.eh_cxa.specs.declared.layout.TheConstants.{SLOTS, SLOT_WORDS, STATE}
use Rattle.eh_cxa.specs.declared.state.TheConstants.{FREE}
use Rattle.thread_memory.specs.Homes.{home_of, IsAtHome}
use Rattle.thread_memory.specs.Owners.{AreWords, holding_after, is_others, state_seen_by, switch_thread}
use Rattle.thread_memory.specs.Seen.{thread_view}
use Rattle.thread_memory.specs.declared.homes.TheConstants.{THREADS}
use Rattle.thread_memory.specs.declared.owners.Holding.{Holding}
use Rattle.thread_memory.specs.declared.owners.TheConstants.{OUT_OF_USE}

-- ---- homes

-- each address of the stack lies in the home of one thread
abbrev pub HomesPart : Type 0
HomesPart = (a : ℕ) → STACK_START ≤ a → a < STACK_END → (thread : ℕ) × ((thread < THREADS) × IsAtHome thread a)

-- and in the home of no other
abbrev pub HomesAreApart : Type 0
HomesAreApart = (one other a : ℕ) → one < THREADS → other < THREADS → IsAtHome one a → IsAtHome other a → one ≡ other

-- ---- guards

-- when sp rises within a thread's home, no guarded word of another thread is released
abbrev pub ReleasesNoOthers : Type 0
ReleasesNoOthers =
    (m : Memory) (guards : List ℕ) (thread other a g : ℕ) → thread < THREADS → other < THREADS → (other ≡ thread → ⊥) → a ≤ (home_of thread).1
    → Has guards g → IsAtHome other g → Has (without_guards_below (thread_view m guards thread) a).guards g

-- but each of its own words below sp is
abbrev pub ReleasesItsOwn : Type 0
ReleasesItsOwn = (m : Memory) (guards : List ℕ) (thread a g : ℕ) → IsAtHome thread g → g < a → Has (without_guards_below (thread_view m guards thread) a).guards g → ⊥

-- a store that succeeds overwrites no guarded word of any thread
pub record Misses (n : ℕ) (m m' : Memory) (a g : ℕ) : Type 0 where
  pub apart : Apart a n g 4
  pub same : load 4 m' g ≡ load 4 m g

abbrev pub StoresMissGuards : Type 0
StoresMissGuards =
    (n : ℕ) (m : Memory) (guards : List ℕ) (thread a v g : ℕ) (m' : Memory) → store n (thread_view m guards thread) a v ≡ (Ok tt, m') → Has guards g
    → Misses n (thread_view m guards thread) m' a g

-- an aligned store to a guarded word is refused with its address and changes nothing, whichever thread stores and whoever owns the word
abbrev pub GuardedStoresAreRefused : Type 0
GuardedStoresAreRefused =
    (n : ℕ) (m : Memory) (guards : List ℕ) (thread a v g : ℕ) → IsMap (thread_view m guards thread) → IsWidth n → (a % n == 0) ≡ true → Has guards g → g ≤ a → a < g + 4
    → store n (thread_view m guards thread) a v ≡ (Err (SavedSlot g), thread_view m guards thread)

-- ---- exceptions

-- the thread that has run will read again what it reads now
abbrev pub RunnersReadTheirOwn : Type 0
RunnersReadTheirOwn = (thread state : ℕ) (h : Holding) → state_seen_by thread (holding_after thread state h) ≡ state

-- a slot whose state reads as before is unchanged; one that the thread freed is nobody's, and any other is its own
abbrev pub UntouchedStay : Type 0
UntouchedStay = (thread : ℕ) (h : Holding) → holding_after thread (state_seen_by thread h) h ≡ h

abbrev pub FreedAreNobodys : Type 0
FreedAreNobodys = (thread : ℕ) (h : Holding) → (FREE ≡ state_seen_by thread h → ⊥) → (holding_after thread FREE h).owner ≡ None

abbrev pub MadeAreItsOwn : Type 0
MadeAreItsOwn =
    (thread state : ℕ) (h : Holding) → (state ≡ state_seen_by thread h → ⊥) → (state ≡ FREE → ⊥) → (holding_after thread state h).owner ≡ Some thread

-- after a switch each slot's state reads as the entered thread sees it, and no other word of the pool has changed
pub record Shows (new : ℕ) (owners : List Holding) (m m' : Memory) : Type 0 where
  pub states : (s : ℕ) (d : Holding) → s < SLOTS → word m' s STATE ≡ state_seen_by new (slice_index_or owners s d)
  pub others : (s k : ℕ) → s < SLOTS → k < SLOT_WORDS → (k ≡ STATE → ⊥) → word m' s k ≡ word m s k

abbrev pub SwitchesShow : Type 0
SwitchesShow =
    (m : Memory) (old new : ℕ) (owners : List Holding) → IsMap m → length owners ≡ SLOTS → AreWords owners
    → ((s : ℕ) (d : Holding) → s < SLOTS → word m s STATE ≡ state_seen_by old (slice_index_or owners s d))
    → Shows new owners m (switch_thread old new owners m)

-- an exception of another thread can't be freed, thrown or caught, and its slot isn't handed out
pub record Shut (w : Pool) (s : ℕ) : Type 0 where
  pub free : (free_of w (Some s)).answer ≡ Err BadObject
  pub throw : (g : Globals) (t : Throw) → (start_throw_of w g (Some s) t).answer ≡ Err BadObject
  pub catch : (g : Globals) → (begin_catch_of w g (block s)).answer ≡ Err BadUcb
  pub taken : w s STATE ≡ FREE → ⊥

abbrev pub OthersAreShut : Type 0
OthersAreShut =
    (w : Pool) (thread s : ℕ) (h : Holding) → s < SLOTS → is_others thread h.owner ≡ true → w s STATE ≡ state_seen_by thread h → Shut w s

-- a thread reads its own exceptions and nobody's as they are
abbrev pub OwnersReadTheirOwn : Type 0
OwnersReadTheirOwn = (thread state : ℕ) → state_seen_by thread (record { owner = Some thread; state = state }) ≡ state

-- ---- in digits

pub record InDigits : Type 0 where
  pub threads : THREADS ≡ 4
  pub first : home_of 0 ≡ (1073725440, 1073741824)
  pub last : home_of 3 ≡ (1073676288, 1073692672)
  pub out_of_use : OUT_OF_USE ≡ 6
