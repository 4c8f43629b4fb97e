-- The checks of sp: at a lowering place, and above the landing sp of a cleanup in progress (docs/rules/machine.md, "An event").
use Rattle.std.specs.Prelude.{◌≡◌, ℕ, ◌<◌, true, false, List, slice_index, Some}
use Rattle.run_events.specs.Runs.{Ends}
use Rattle.eh_bus.specs.Memory.{Memory}
use Rattle.eh_cxa.specs.Words.{word, block_slot}
use Rattle.thumb_core.specs.Step.{step_for}
use Rattle.thumb_core.specs.declared.regs.Regs.{Regs}
use Rattle.thumb_core.specs.declared.regs.CoreTrap.{CoreTrap}
use Rattle.thumb_core.specs.declared.regs.Stepped.{Stepped}
use Rattle.thumb_core.specs.declared.regs.Stepped.TheVariants.{Trap}
use Rattle.thumb_core.specs.declared.ends.TrapKind.TheVariants as kind
use Rattle.thumb_core.specs.declared.ends.End.TheVariants as the_end
use Rattle.eh_gates.specs.State.{State, reg}
use Rattle.sim_machines.specs.Program.{Program, profile_in}
use Rattle.sim_machines.specs.Machine.{machine_event}

-- a checked instruction was done and didn't trap
pub record Does (p : Program) (s : State) (what : Stepped) (after : Regs) (m : Memory) : Type 0 where
  pub checked : (p.look s.regs.pc).is_instr ≡ true
  pub step : step_for (profile_in p) s.regs s.memory ≡ (what, after, m)
  pub no_trap : (trap : CoreTrap) → what ≡ Trap trap → ⊥

-- ---- at a lowering place

-- sp (r13) rises there
pub record RisesThere (p : Program) (s : State) (after : Regs) : Type 0 where
  pub lowers : (p.look s.regs.pc).lowers ≡ true
  pub rises : reg s 13 < slice_index after.r 13

-- then the event is SpRaised with the new sp and leaves the state, whatever cleanup is in progress and wherever the stack ends
abbrev pub LoweringsNeverRaise : Type 0
LoweringsNeverRaise =
    (p : Program) (s : State) (input : List ℕ) (what : Stepped) (after : Regs) (m : Memory) → Does p s what after m → RisesThere p s after
    → machine_event p s input ≡ Ends (the_end.Trap kind.SpRaised (slice_index after.r 13) s.regs.pc) s

-- and only then: not at any other place, and not if sp stays or falls
pub record IsRaised (p : Program) (s : State) (after : Regs) (value : ℕ) : Type 0 where
  pub rises : RisesThere p s after
  pub is_value : value ≡ slice_index after.r 13

abbrev pub OnlyLoweringsAreRaised : Type 0
OnlyLoweringsAreRaised =
    (p : Program) (s t : State) (input : List ℕ) (what : Stepped) (after : Regs) (m : Memory) (value pc : ℕ) → Does p s what after m
    → machine_event p s input ≡ Ends (the_end.Trap kind.SpRaised value pc) t → IsRaised p s after value

-- ---- above the landing sp of a cleanup in progress

-- the landing sp of the innermost cleanup in progress, which is word 25 of its slot
pub record IsInnermost (s : State) (landing : ℕ) : Type 0 where
  pub slot : ℕ
  pub is : block_slot s.globals.cleanup ≡ Some slot
  pub sp : word s.memory slot 25 ≡ landing

-- sp (r13) rises, to above the landing sp
pub record RisesAbove (s : State) (after : Regs) (landing : ℕ) : Type 0 where
  pub rises : reg s 13 < slice_index after.r 13
  pub above : landing < slice_index after.r 13

-- then the event is SpInCleanup with the new sp and leaves the state; but at a lowering place it is SpRaised
abbrev pub RisesAreRefused : Type 0
RisesAreRefused =
    (p : Program) (s : State) (input : List ℕ) (what : Stepped) (after : Regs) (m : Memory) (landing : ℕ) → Does p s what after m
    → (p.look s.regs.pc).lowers ≡ false → IsInnermost s landing → RisesAbove s after landing
    → machine_event p s input ≡ Ends (the_end.Trap kind.SpInCleanup (slice_index after.r 13) s.regs.pc) s

-- and only then: not if sp rises to the landing sp at most, and not at a lowering place
pub record IsRefused (p : Program) (s : State) (after : Regs) (value : ℕ) : Type 0 where
  pub plain : (p.look s.regs.pc).lowers ≡ false
  pub landing : ℕ
  pub innermost : IsInnermost s landing
  pub rises : RisesAbove s after landing
  pub is_value : value ≡ slice_index after.r 13

abbrev pub OnlyRisesAreRefused : Type 0
OnlyRisesAreRefused =
    (p : Program) (s t : State) (input : List ℕ) (what : Stepped) (after : Regs) (m : Memory) (value pc : ℕ) → Does p s what after m
    → machine_event p s input ≡ Ends (the_end.Trap kind.SpInCleanup value pc) t → IsRefused p s after value
