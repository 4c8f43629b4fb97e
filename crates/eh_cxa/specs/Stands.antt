-- The pool's words and the globals represent lists.
use Rattle.std.specs.Prelude.{ℕ, ◌≡◌, ◌<◌, ◌^◌, ◌==◌, List, [], ◌∷◌, Option, Some, None, if◌then◌else◌, length}
use Rattle.std.specs.Int.{cast_signed}
use mir.Syntax.{w32}
use Rattle.eh_cxa.specs.declared.globals.Globals.{Globals}
use Rattle.eh_cxa.specs.declared.layout.TheConstants.{SLOTS, CLOSED_WORDS, STATE, SIZE, TYPE, DESTRUCTOR, COUNT, NEXT_CAUGHT, CLEANUP_NEXT, CLEANUP_SP, CLEANUP_SITE, NEXT_CLEANUP}
use Rattle.eh_cxa.specs.declared.state.TheConstants.{FREE}
use Rattle.eh_cxa.specs.declared.state.State.{State}
use Rattle.eh_cxa.specs.States.{state_of_word}
use Rattle.eh_cxa.specs.Words.{Pool, block_slot}
use Rattle.eh_cxa.specs.Lists.{Record, Entry, Free, OutOfUse, Live, Cleanup, Lists, entry, slots, Outcome, IsValid}

-- the record that the words of a slot represent
abbrev pub record_of : State → Pool → ℕ → Record
record_of state w s = record {
  state = state;
  size = w s SIZE;
  ty = w s TYPE;
  destructor = w s DESTRUCTOR;
  count = cast_signed w32 (w s COUNT);
}

abbrev pub live_at : Option State → Pool → ℕ → Entry
live_at (Some state) w s = Live (record_of state w s)
live_at None w s = OutOfUse

abbrev pub entry_at : ℕ → Pool → ℕ → Entry
entry_at n w s = if n == FREE then Free else live_at (state_of_word n) w s

-- the entry that the words of a slot represent
abbrev pub entry_of : Pool → ℕ → Entry
entry_of w s = entry_at (w s STATE) w s

abbrev pub cleanup_of : Pool → ℕ → Cleanup
cleanup_of w s = record { slot = s; next = w s CLEANUP_NEXT; sp = w s CLEANUP_SP; site = w s CLEANUP_SITE }

-- the linked list from the head has exactly these slots, and then ends
abbrev pub Chain : (ℕ → ℕ) → ℕ → List ℕ → Type 0
Chain next head [] = block_slot head ≡ None
Chain next head (s ∷ more) = (block_slot head ≡ Some s) × Chain next (next s) more

-- each cleanup has the values that its slot's words give
abbrev pub Frames : Pool → List Cleanup → Type 0
Frames w [] = Unit {0}
Frames w (c ∷ more) = (c ≡ cleanup_of w c.slot) × Frames w more

pub record Shows (w : Pool) (g : Globals) (l : Lists) : Type 0 where
  pub small : (s k : ℕ) → s < SLOTS → k < CLOSED_WORDS → w s k < 2 ^ 32
  pub sized : length l.entries ≡ SLOTS
  pub entries : (s : ℕ) → s < SLOTS → entry l s ≡ entry_of w s
  pub caught : Chain (λ s. w s NEXT_CAUGHT) g.caught l.caught
  pub cleanups : Chain (λ s. w s NEXT_CLEANUP) g.cleanup (slots l.cleanups)
  pub frames : Frames w l.cleanups
  pub uncaught : l.uncaught ≡ g.uncaught

pub record Stands (w : Pool) (g : Globals) (l : Lists) : Type 0 where
  pub shows : Shows w g l
  pub valid : IsValid l

-- a call gives the lists' result, and what it leaves represents the new lists
pub record Follows {A : Type 0} (w : Pool) (g : Globals) (answer : A) (o : Outcome A) : Type 0 where
  pub same : answer ≡ o.answer
  pub stands : Stands w g o.lists
