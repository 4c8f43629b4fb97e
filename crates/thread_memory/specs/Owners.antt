-- Whose exception a slot holds, and what each thread reads of it (docs/guide/walks-and-threads.md).
use Rattle.std.specs.Prelude.{◌≡◌, ℕ, zero, suc, ◌^◌, ◌<◌, ◌≤◌, ◌==◌, Bool, false, not, List, [], ◌∷◌, ◌++◌, Option, Some, None, All, length, slice_index_or, if◌then◌else◌}
use Rattle.eh_bus.specs.Memory.{Memory}
use Rattle.eh_cxa.specs.Words.{Pool, Write, write, set_slot_words}
use Rattle.eh_cxa.specs.declared.layout.TheConstants.{SLOTS, STATE}
use Rattle.eh_cxa.specs.declared.state.TheConstants.{FREE}
use Rattle.thread_memory.specs.Homes.{home_of}
use Rattle.thread_memory.specs.declared.owners.Holding.{Holding}
use Rattle.thread_memory.specs.declared.owners.TheConstants.{OUT_OF_USE}

-- it is another thread's
abbrev pub is_others : ℕ → Option ℕ → Bool
is_others thread None = false
is_others thread (Some owner) = not (owner == thread)

-- the state that a thread reads of a slot: its own and nobody's as it is, another thread's as out of use
abbrev pub state_seen_by : ℕ → Holding → ℕ
state_seen_by thread h = if is_others thread h.owner then OUT_OF_USE else h.state

-- a slot whose state was written by a thread: nobody's if it is free, otherwise the thread's
abbrev pub holding_of : ℕ → ℕ → Holding
holding_of thread state = record { owner = if state == FREE then None else Some thread; state = state }

-- what a slot holds after a thread has run and now reads this state: unchanged if the thread reads what it read before
abbrev pub holding_after : ℕ → ℕ → Holding → Holding
holding_after thread state h = if state == state_seen_by thread h then h else holding_of thread state

-- the same of all slots from `slot` on
abbrev pub holdings_after : ℕ → Pool → ℕ → List Holding → List Holding
holdings_after thread w slot [] = []
holdings_after thread w slot (h ∷ more) = holding_after thread (w slot STATE) h ∷ holdings_after thread w (suc slot) more

abbrev pub owners_after : ℕ → Pool → List Holding → List Holding
owners_after thread w owners = holdings_after thread w 0 owners

-- the state word of a slot, if the other thread reads it otherwise
abbrev pub change_of : ℕ → ℕ → ℕ → Holding → List Write
change_of old new slot h = if state_seen_by old h == state_seen_by new h then [] else write slot STATE (state_seen_by new h) ∷ []

-- those of all slots from `slot` on
abbrev pub changes_from : ℕ → ℕ → ℕ → List Holding → List Write
changes_from old new slot [] = []
changes_from old new slot (h ∷ more) = change_of old new slot h ++ changes_from old new (suc slot) more

-- a slot that is free, and nobody's
abbrev pub unused : Holding
unused = record { owner = None; state = FREE }

-- every slot from a number on is free: in memory, and in what is recorded of it
abbrev pub AreFree : Pool → ℕ → Type 0
AreFree w used = (slot : ℕ) → used ≤ slot → slot < SLOTS → w slot STATE ≡ FREE

abbrev pub AreUnused : List Holding → ℕ → Type 0
AreUnused owners used = (slot : ℕ) → used ≤ slot → slice_index_or owners slot unused ≡ unused

-- what the slots below a number hold after a thread has run; the others are unchanged
pub record UpdatesOwners (thread : ℕ) (w : Pool) (old new : List Holding) (used : ℕ) : Type 0 where
  pub sized : length new ≡ length old
  pub told : (slot : ℕ) (d : Holding) → slot < used → slice_index_or new slot d ≡ holding_after thread (w slot STATE) (slice_index_or old slot d)
  pub rest : (slot : ℕ) (d : Holding) → used ≤ slot → slice_index_or new slot d ≡ slice_index_or old slot d

-- the memory after a switch from one thread to another: the other's home, and the state words as that one reads them
abbrev pub switch_thread : ℕ → ℕ → List Holding → Memory → Memory
switch_thread old new owners m = record (set_slot_words (changes_from old new 0 owners) m) { home = home_of new }

-- every state is a word
abbrev pub AreWords : List Holding → Type 0
AreWords owners = All (λ (h : Holding). h.state < 2 ^ 32) owners

-- slots that are nobody's, each with its state word
unfoldable pub unowned_from : Pool → ℕ → ℕ → List Holding
unowned_from w slot zero = []
unowned_from w slot (suc n) = record { owner = None; state = w slot STATE } ∷ unowned_from w (suc slot) n
