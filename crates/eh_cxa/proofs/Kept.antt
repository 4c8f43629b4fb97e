-- What the words stand for at the start, and that it stays where the closed words do.
use Rattle.std.proofs.Common.{◌≡◌, ℕ, zero, suc, ◌<◌, get_or, replicate, pos, refl, arith}
use Rattle.eh_bus.specs.Memory.{Memory, store}
use Rattle.std.proofs.Common.{Ok}
use Rattle.eh_bus.proofs.PartLaws.{store_leaves_closed}
use Rattle.eh_bus.specs.Place.{IsWidth}
use Rattle.eh_cxa.specs.declared.globals.Globals.{Globals}
use Rattle.eh_cxa.specs.declared.layout.TheConstants.{SLOTS, CLOSED_WORDS, STATE}
use Rattle.eh_cxa.specs.Words.{Pool, word}
use Rattle.eh_cxa.specs.Lists.{Entry, Free, OutOfUse, Lists, count_in, Fits}
use Rattle.eh_cxa.specs.Runs.{empty_lists, no_globals}
use Rattle.eh_cxa.specs.Stands.{Stands}
use Rattle.eh_cxa.proofs.Pools.{block_slot_zero}
use Rattle.eh_cxa.proofs.Showing.{shows_same}

pub blank_at : (n s : ℕ) → s < n → get_or (replicate n Free) s OutOfUse ≡ Free
blank_at zero s h = absurd (omega arith)
blank_at (suc n) zero h = refl
blank_at (suc n) (suc s) h = blank_at n s (omega arith)

pub blank : (P : Entry → Type 0) (n s : ℕ) → P Free → P OutOfUse → P (get_or (replicate n Free) s OutOfUse)
blank P zero s f l = l
blank P (suc n) zero f l = f
blank P (suc n) (suc s) f l = blank P n s f l

-- a pool of zeros has no exceptions
pub start_stands : (w : Pool) → ((s k : ℕ) → s < SLOTS → k < CLOSED_WORDS → w s k ≡ 0) → Stands w no_globals empty_lists
start_stands w z = record {
  shows = record {
    small = λ s k h i. rw (z s k h i) (omega arith);
    sized = refl;
    entries = λ s h. rw (z s STATE h (omega arith), blank_at 64 s h) refl;
    caught = block_slot_zero;
    cleanups = block_slot_zero;
    frames = tt;
    uncaught = refl;
  };
  valid = record {
    caught_once = tt;
    cleanups_once = tt;
    counted = λ s. (λ p. absurd p, λ n. n (blank (λ e. count_in e ≡ pos 0) 64 s refl refl));
    fits = λ s. blank Fits 64 s tt tt;
    flying = λ s p. absurd p;
  };
}

-- the lists stay where the closed words do
pub still_stands : (m m' : Memory) (g : Globals) (l : Lists) → ((s k : ℕ) → s < SLOTS → k < CLOSED_WORDS → word m' s k ≡ word m s k) → Stands (word m) g l → Stands (word m') g l
still_stands m m' g l e x = record { shows = shows_same (word m) (word m') g l e x.shows; valid = x.valid }

word_kept : (n : ℕ) (m : Memory) (a v : ℕ) (m' : Memory) → IsWidth n → store n m a v ≡ (Ok tt, m') → (s k : ℕ) → s < SLOTS → k < CLOSED_WORDS → word m' s k ≡ word m s k
unfolding word
word_kept n m a v m' width e s k h i =
    store_leaves_closed n m a v m' _ width e (record { low = omega arith; high = omega arith; closed = omega arith; aligned = omega arith })

-- so through each store of the guest
pub store_stands : (n : ℕ) (m : Memory) (a v : ℕ) (m' : Memory) (g : Globals) (l : Lists) → IsWidth n → store n m a v ≡ (Ok tt, m') → Stands (word m) g l → Stands (word m') g l
store_stands n m a v m' g l width e x = still_stands m m' g l (word_kept n m a v m' width e) x
