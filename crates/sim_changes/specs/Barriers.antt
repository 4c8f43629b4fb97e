-- The words of a barrier that no cleanup in progress waits for may change (docs/inside/simulation.md): the personality routine of another
-- compiler writes there what it gives its handler.
use Rattle.std.specs.Prelude.{◌≡◌, ℕ, ◌^◌, ◌<◌, Some}
use Rattle.eh_bus.specs.Lists.{Has}
use Rattle.eh_cxa.specs.Lists.{entry, slots, state_in}
use Rattle.eh_cxa.specs.Throw.{set_barrier_of}
use Rattle.eh_cxa.specs.declared.globals.BarrierWords.{BarrierWords}
use Rattle.eh_cxa.specs.declared.layout.TheConstants.{SLOTS}
use Rattle.eh_cxa.specs.declared.state.State.TheVariants.{Landed}
use Rattle.sim_machines.specs.Activations.{Recorded, with_words, lists_of, cleanups_in}
use Rattle.frame_check.specs.Accepts.{Accepted}
use Rattle.sim_relation.specs.Stands.{Keeps}

-- four 32-bit words, as those of every barrier are
pub record AreWords (b : BarrierWords) : Type 0 where
  pub sp : b.sp < 2 ^ 32
  pub object : b.object < 2 ^ 32
  pub desc : b.desc < 2 ^ 32
  pub pointer : b.pointer < 2 ^ 32

-- the state with the barrier of a slot written
abbrev pub with_barrier_words : ℕ → BarrierWords → Recorded → Recorded
with_barrier_words slot b s = with_words (set_barrier_of (Some slot) b) s

pub record BarriersAreFree (x : Accepted) (s : Recorded) : Type 0 where
  -- of a slot whose exception has no cleanup in progress
  pub idle : (slot : ℕ) (b : BarrierWords) → slot < SLOTS → (Has (slots (cleanups_in s.cleanups)) slot → ⊥) → AreWords b → Keeps x (with_barrier_words slot b s)
  -- so of an exception that has landed
  pub landed : (slot : ℕ) (b : BarrierWords) → slot < SLOTS → state_in (entry (lists_of s) slot) ≡ Some Landed → AreWords b → Keeps x (with_barrier_words slot b s)

abbrev pub FreeBarriers : Type 0
FreeBarriers = (x : Accepted) (s : Recorded) → Keeps x s → BarriersAreFree x s
