-- A throw over bytes and with recorded activations, if the frames of both agree (docs/rules/machine.md, "Laws").
use Rattle.std.specs.Prelude.{◌≡◌, ℕ, ◌<◌, ◌^◌, List, [], ◌∷◌, ◌++◌, drop, Some, None}
use Rattle.eh_cxa.specs.Words.{Write, block, block_slot, object_slot, set_slot_words}
use Rattle.eh_cxa.specs.declared.layout.TheConstants.{SLOTS, SLOT_WORDS}
use Rattle.eh_phase.specs.Calls.{stack_of}
use Rattle.eh_phase.specs.Frames.{frames_of}
use Rattle.eh_phase.specs.Laws.{goal_of}
use Rattle.eh_phase.specs.Phases.{phase2}
use Rattle.eh_phase.specs.declared.phase1.Barrier.{Barrier}
use Rattle.eh_phase.specs.declared.phase1.Found.TheVariants as found
use Rattle.thumb_core.specs.Registers.{all_of}
use Rattle.eh_gates.specs.declared.gates.TheConstants.{THROW_GATE, RETHROW_GATE}
use Rattle.eh_gates.specs.State.{Tables}
use Rattle.eh_gates.specs.Gates.{gate_of}
use Rattle.eh_gates.specs.Throwing.{frames_at_gate, barrier_words, throw_to}
use Rattle.sim_machines.specs.Activations.{Activation, Recorded, reg_in, memory_of, heads, bytes_of, first_place, lists_of}
use Rattle.sim_machines.specs.ActivationMachine as machine
use Rattle.sim_machines.specs.Agreeing.{Agree}
use Rattle.sim_machines.specs.Corresponds.{Corresponds, GateMatches}
use Rattle.sim_machines.specs.Landings.{IsInFlight, Lands}

-- words of the pool's slots
abbrev pub AreInPool : List Write → Type 0
AreInPool [] = Unit {0}
AreInPool (w ∷ more) = (w.slot < SLOTS) × (w.place < SLOT_WORDS) × AreInPool more

-- the frames that phase 2 goes over from a site agree in both machines, whatever words the runtime has written into the pool before
abbrev pub AdvancesAlike : Tables → Recorded → ℕ → Type 0
AdvancesAlike g s site =
    (ws : List Write) → AreInPool ws → Agree (frames_of g.image (stack_of (set_slot_words ws (memory_of s))) None site (all_of s.regs)) (machine.frames_from g s None site)

-- the frames of a state agree at a gate: those that phase 1 sees, and those that phase 2 goes over
pub record SeesAlike (g : Tables) (s : Recorded) : Type 0 where
  pub search : Agree (frames_at_gate g (bytes_of s)) (machine.frames_from g s (first_place s.cleanups) s.regs.pc)
  pub advance : AdvancesAlike g s s.regs.pc

-- what phase 2 enters from a site, for a barrier that was found, is in an activation, and leaves no slot of those that it cuts
pub record CanLand (g : Tables) (s : Recorded) (site slot : ℕ) (b : Barrier) : Type 0 where
  pub sp : (barrier_words (block slot) b).sp < 2 ^ 32
  pub object : (barrier_words (block slot) b).object < 2 ^ 32
  pub desc : (barrier_words (block slot) b).desc < 2 ^ 32
  pub pointer : (barrier_words (block slot) b).pointer < 2 ^ 32
  pub cut : List Activation
  pub first : Activation
  pub more : List Activation
  pub all : s.first ∷ s.outer ≡ cut ++ first ∷ more
  pub passed : drop (machine.passed_frame_count (goal_of b) 0 (machine.frames_from g s None site).frames) (s.first ∷ s.outer) ≡ first ∷ more
  pub lands : Lands s cut (phase2 (goal_of b) 0 (machine.frames_from g s None site))

-- then a throw does the same in both machines, and the states after it stand for each other
abbrev pub ThrowsMatch : Type 0
ThrowsMatch =
    (g : Tables) (next : ℕ) (s : Recorded) → Corresponds s → reg_in s 1 < 2 ^ 32 → reg_in s 2 < 2 ^ 32 → SeesAlike g s
    → ((slot : ℕ) (b : Barrier) → object_slot (reg_in s 0) ≡ Some slot → machine.phase1_result g s (machine.gate_thrown s) ≡ found.Barrier b → CanLand g s s.regs.pc slot b)
    → GateMatches (gate_of g THROW_GATE next (bytes_of s)) (machine.gate_of g THROW_GATE next s)

-- the same for a rethrow of the top of the caught stack
abbrev pub RethrowsMatch : Type 0
RethrowsMatch =
    (g : Tables) (next : ℕ) (s : Recorded) → Corresponds s → SeesAlike g s
    → ((slot : ℕ) (b : Barrier) → block_slot (heads (lists_of s)).caught ≡ Some slot → machine.phase1_result g s (machine.slot_thrown (lists_of s) (Some slot)) ≡ found.Barrier b
    → CanLand g s s.regs.pc slot b)
    → GateMatches (gate_of g RETHROW_GATE next (bytes_of s)) (machine.gate_of g RETHROW_GATE next s)

-- .. and for phase 2 from any site to a barrier, for an exception in flight
abbrev pub ThrowsToMatch : Type 0
ThrowsToMatch =
    (g : Tables) (s : Recorded) (site slot : ℕ) (b : Barrier) → Corresponds s → IsInFlight s slot → AdvancesAlike g s site → CanLand g s site slot b
    → GateMatches (throw_to g (bytes_of s) site (block slot) b) (machine.throw_to g site (block slot) b s)
