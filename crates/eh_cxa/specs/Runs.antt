-- Runs of calls on lists that begin with an empty pool: the number of exceptions in flight, and the life of an exception.
use Rattle.std.specs.Prelude.{◌≡◌, ◌<◌, ℕ, ◌+◌, ◌==◌, Bool, List, [], ◌∷◌, replicate, Option, Some, None, false, Result, Ok, Err, if◌then◌else◌}
use Rattle.std.specs.List.{count_by}
use Rattle.eh_cxa.specs.declared.globals.Globals.{Globals}
use Rattle.eh_cxa.specs.declared.globals.CleanupWords.{CleanupWords}
use Rattle.eh_cxa.specs.declared.globals.CxaFault.{CxaFault}
use Rattle.eh_cxa.specs.declared.layout.TheConstants.{SLOTS}
use Rattle.eh_cxa.specs.declared.state.State.{State}
use Rattle.eh_cxa.specs.declared.state.State.TheVariants.{Fresh, Flying, Landed, Caught, Ended}
use Rattle.eh_cxa.specs.States.{is_in_flight}
use Rattle.eh_cxa.specs.Words.{block, object}
use Rattle.eh_cxa.specs.Throw.{Throw}
use Rattle.eh_cxa.specs.Lists.{Entry, Free, OutOfUse, Live, Lists, entry, state_in}
use Rattle.eh_cxa.specs.ListCalls.{allocate_list, free_list, throw_list, land_list, catch_list, end_list, rethrow_list, begin_cleanup_list, end_cleanup_list}

-- no exceptions
abbrev pub empty_lists : Lists
empty_lists = record { entries = replicate SLOTS Free; caught = []; cleanups = []; uncaught = 0 }

abbrev pub no_globals : Globals
no_globals = record { caught = 0; cleanup = 0; uncaught = 0 }

-- a call as the lists know it: an address is given by its slot, None if it belongs to no slot
pub data Call : Type 0 where
  Allocate : ℕ → Call
  GiveBack : Option ℕ → Call
  StartThrow : Option ℕ → Throw → Call
  Land : ℕ → Call
  -- with the address that each slot's barrier gives the handler
  BeginCatch : (ℕ → ℕ) → Option ℕ → Call
  EndCatch : Call
  Rethrow : Call
  BeginCleanup : ℕ → CleanupWords → Call
  EndCleanup : ℕ → Call

abbrev pub lists_after : Call → Lists → Lists
lists_after (Allocate size) l = (allocate_list l size).lists
lists_after (GiveBack s) l = (free_list l s).lists
lists_after (StartThrow s t) l = (throw_list l s t).lists
lists_after (Land s) l = land_list l s
lists_after (BeginCatch given s) l = (catch_list given l s).lists
lists_after EndCatch l = (end_list l).lists
lists_after Rethrow l = (rethrow_list l).lists
lists_after (BeginCleanup s c) l = begin_cleanup_list l s c
lists_after (EndCleanup sp) l = (end_cleanup_list l sp).lists

abbrev pub run : List Call → Lists → Lists
run [] l = l
run (c ∷ more) l = run more (lists_after c l)

-- ---- how many are in flight

abbrev pub flies : Entry → Bool
flies e = is_in_flight (state_in e)

-- in a run from an empty pool, the number of uncaught exceptions is the number of those that are flying or landed
abbrev pub UncaughtFly : Type 0
UncaughtFly = (calls : List Call) → (run calls empty_lists).uncaught ≡ count_by flies (run calls empty_lists).entries

-- ---- the life of the exception that a slot has or had last: how often it was allocated, first thrown, handed to its destructor, and
-- freed

pub record Life : Type 0 where
  pub allocated : ℕ
  pub thrown : ℕ
  pub ended : ℕ
  pub freed : ℕ

abbrev pub no_life : Life
no_life = record { allocated = 0; thrown = 0; ended = 0; freed = 0 }

abbrev pub new_life : Life
new_life = record { allocated = 1; thrown = 0; ended = 0; freed = 0 }

-- counted from the results of the calls; an allocation of the slot begins a new life

abbrev pub life_after_allocate : ℕ → Result ℕ CxaFault → Life → Life
life_after_allocate s (Ok a) b = if a == object s then new_life else b
life_after_allocate s (Err e) b = b

abbrev pub life_after_throw : ℕ → Result ℕ CxaFault → Life → Life
life_after_throw s (Ok a) b = if a == block s then record { allocated = b.allocated; thrown = b.thrown + 1; ended = b.ended; freed = b.freed } else b
life_after_throw s (Err e) b = b

abbrev pub life_after_end : ℕ → Result (ℕ × ℕ) CxaFault → Life → Life
life_after_end s (Ok a) b = if a.0 == object s then record { allocated = b.allocated; thrown = b.thrown; ended = b.ended + 1; freed = b.freed } else b
life_after_end s (Err e) b = b

abbrev pub life_after_free : Bool → Result (Unit {0}) CxaFault → Life → Life
life_after_free own (Ok u) b = if own then record { allocated = b.allocated; thrown = b.thrown; ended = b.ended; freed = b.freed + 1 } else b
life_after_free own (Err e) b = b

abbrev pub names_slot : Option ℕ → ℕ → Bool
names_slot None s = false
names_slot (Some t) s = t == s

abbrev pub life_after_call : ℕ → Call → Lists → Life → Life
life_after_call s (Allocate size) l b = life_after_allocate s (allocate_list l size).answer b
life_after_call s (GiveBack t) l b = life_after_free (names_slot t s) (free_list l t).answer b
life_after_call s (StartThrow t w) l b = life_after_throw s (throw_list l t w).answer b
life_after_call s (Land t) l b = b
life_after_call s (BeginCatch given t) l b = b
life_after_call s EndCatch l b = life_after_end s (end_list l).answer b
life_after_call s Rethrow l b = b
life_after_call s (BeginCleanup t c) l b = b
life_after_call s (EndCleanup sp) l b = b

abbrev pub life_after_calls : ℕ → List Call → Lists → Life → Life
life_after_calls s [] l b = b
life_after_calls s (c ∷ more) l b = life_after_calls s more (lists_after c l) (life_after_call s c l b)

-- a free slot was never allocated; or its exception was freed once and, if it was thrown, handed to its destructor once before
pub data Over (b : Life) : Type 0 where
  unused : b ≡ no_life → Over b
  unthrown : b ≡ record { allocated = 1; thrown = 0; ended = 0; freed = 1 } → Over b
  done : b ≡ record { allocated = 1; thrown = 1; ended = 1; freed = 1 } → Over b

-- the life so far of a live exception
abbrev pub life_so_far : State → Life
life_so_far Fresh = new_life
life_so_far Flying = record { allocated = 1; thrown = 1; ended = 0; freed = 0 }
life_so_far Landed = record { allocated = 1; thrown = 1; ended = 0; freed = 0 }
life_so_far Caught = record { allocated = 1; thrown = 1; ended = 0; freed = 0 }
life_so_far Ended = record { allocated = 1; thrown = 1; ended = 1; freed = 0 }

abbrev pub LifeFits : Entry → Life → Type 0
LifeFits Free b = Over b
LifeFits OutOfUse b = ⊥
LifeFits (Live r) b = b ≡ life_so_far r.state

-- in a run from an empty pool, each slot's entry agrees with its life so far
abbrev pub LivesFit : Type 0
LivesFit = (calls : List Call) (s : ℕ) → s < SLOTS → LifeFits (entry (run calls empty_lists) s) (life_after_calls s calls empty_lists no_life)
