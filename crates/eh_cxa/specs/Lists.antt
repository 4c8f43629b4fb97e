-- Exceptions as lists: what each slot holds, the caught stack, the cleanups in progress, and how many are uncaught.
use Rattle.std.specs.Prelude.{◌≡◌, ℕ, ◌≤ℤ◌, ◌<ℤ◌, ◌↔◌, List, [], ◌∷◌, Option, Some, None, get_or, ℤ, pos}
use Rattle.eh_bus.specs.Lists.{Has}
use Rattle.eh_cxa.specs.declared.state.State.{State}
use Rattle.eh_cxa.specs.declared.state.State.TheVariants.{Fresh, Flying, Landed, Caught, Ended}

-- a live exception; the slot is its index in entries, and its object is the slot's
pub record Record : Type 0 where
  pub state : State
  pub size : ℕ
  pub ty : ℕ
  pub destructor : ℕ
  pub count : ℤ

-- what a slot holds
pub data Entry : Type 0 where
  Free : Entry
  OutOfUse : Entry
  Live : Record → Entry

pub record Cleanup : Type 0 where
  pub slot : ℕ
  pub next : ℕ
  pub sp : ℕ
  pub site : ℕ

pub record Lists : Type 0 where
  -- by slot
  pub entries : List Entry
  -- slots, the top first
  pub caught : List ℕ
  -- the innermost first
  pub cleanups : List Cleanup
  -- modulo 2^32
  pub uncaught : ℕ

-- the entry of the slot; OutOfUse past the last
abbrev pub entry : Lists → ℕ → Entry
entry l s = get_or l.entries s OutOfUse

-- the exceptions of the cleanups
abbrev pub slots : List Cleanup → List ℕ
slots [] = []
slots (c ∷ more) = c.slot ∷ slots more

-- a slot that is free or out of use has no state, and no handlers
abbrev pub state_in : Entry → Option State
state_in Free = None
state_in OutOfUse = None
state_in (Live r) = Some r.state

abbrev pub count_in : Entry → ℤ
count_in Free = pos 0
count_in OutOfUse = pos 0
count_in (Live r) = r.count

-- ---- valid lists

abbrev pub Once : List ℕ → Type 0
Once [] = Unit {0}
Once (x ∷ xs) = (Has xs x → ⊥) × Once xs

-- the count is positive for a caught exception, 0 or negative in flight, else 0
abbrev pub CountFits : State → ℤ → Type 0
CountFits Caught n = pos 0 <ℤ n
CountFits Flying n = n ≤ℤ pos 0
CountFits Landed n = n ≤ℤ pos 0
CountFits Fresh n = n ≡ pos 0
CountFits Ended n = n ≡ pos 0

abbrev pub Fits : Entry → Type 0
Fits Free = Unit {0}
Fits OutOfUse = Unit {0}
Fits (Live r) = CountFits r.state r.count

pub record IsValid (l : Lists) : Type 0 where
  -- no exception is in a list twice
  pub caught_once : Once l.caught
  pub cleanups_once : Once (slots l.cleanups)
  -- the caught stack has exactly the exceptions whose count isn't 0
  pub counted : (s : ℕ) → Has l.caught s ↔ (count_in (entry l s) ≡ pos 0 → ⊥)
  pub fits : (s : ℕ) → Fits (entry l s)
  -- an exception with a cleanup in progress is flying
  pub flying : (s : ℕ) → Has (slots l.cleanups) s → state_in (entry l s) ≡ Some Flying

-- ---- what a call does to the lists

pub record Outcome (A : Type 0) : Type 0 where
  pub answer : A
  pub lists : Lists

abbrev pub unchanged_lists : {A : Type 0} → A → Lists → Outcome A
unchanged_lists answer l = record { answer = answer; lists = l }
