-- The registers after a gate: at a landing pad, or at the next address (docs/rules/machine.md, "Landing", "Gates").
use Rattle.std.specs.Prelude.{◌≡◌, ◌≢◌, ◌⊎◌, ℕ, ◌+◌, ◌%◌, ◌≤◌, List, length, slice_index}
use Rattle.eh_bytecode.specs.declared.frame.Vrs.{Vrs}
use Rattle.eh_phase.specs.declared.phase2.Entered.TheVariants.{Cleanup, Catch, Spec}
use Rattle.thumb_core.specs.declared.regs.Regs.{Regs}
use Rattle.eh_gates.specs.declared.state.Turned.TheVariants.{Went}
use Rattle.eh_gates.specs.State.{State, Tables}
use Rattle.eh_gates.specs.Landing.{enter_landing}
use Rattle.eh_gates.specs.Gates.{gate_of}

pub record SameFlags (old new : Regs) : Type 0 where
  pub n : new.n ≡ old.n
  pub z : new.z ≡ old.z
  pub c : new.c ≡ old.c
  pub v : new.v ≡ old.v

-- the registers at a landing pad: sp (r13) and r4 to r11 are the frame's, r0 is the answer, r1 to r3, r12 and lr (r14) are 0, pc is the
-- pad with bit 0 clear, and the flags are unchanged
pub record AreLanded (old : Regs) (frame : List ℕ) (pad answer : ℕ) (new : Regs) : Type 0 where
  pub count : length new.r ≡ 15
  pub r0 : slice_index new.r 0 ≡ answer
  pub saved : (k : ℕ) → 4 ≤ k → k ≤ 11 → slice_index new.r k ≡ slice_index frame k
  pub sp : slice_index new.r 13 ≡ slice_index frame 13
  pub low_zeros : (k : ℕ) → 1 ≤ k → k ≤ 3 → slice_index new.r k ≡ 0
  pub r12 : slice_index new.r 12 ≡ 0
  pub lr : slice_index new.r 14 ≡ 0
  pub pc : new.pc + pad % 2 ≡ pad
  pub flags : SameFlags old new

-- a cleanup is given 0, a handler and a violated specification the control block
pub record LandsAsTold (s : State) (block object : ℕ) (vrs : Vrs) (pad : ℕ) : Type 0 where
  pub cleanup : (next site : ℕ) → AreLanded s.regs vrs.r pad 0 (enter_landing s block object (Cleanup vrs pad next site)).1.regs
  pub catch : AreLanded s.regs vrs.r pad block (enter_landing s block object (Catch vrs pad)).1.regs
  pub spec : AreLanded s.regs vrs.r pad block (enter_landing s block object (Spec vrs pad)).1.regs

abbrev pub LandingsAreAsTold : Type 0
LandingsAreAsTold = (s : State) (block object : ℕ) (vrs : Vrs) (pad : ℕ) → LandsAsTold s block object vrs pad

-- ---- by the gates: a throw, a rethrow and the end of a cleanup land where they go on

pub record Lands (s t : State) : Type 0 where
  pub frame : List ℕ
  pub pad : ℕ
  pub answer : ℕ
  pub landed : AreLanded s.regs frame pad answer t.regs

abbrev pub ThrowsLand : Type 0
ThrowsLand =
    (g : Tables) (number next : ℕ) (s t : State) → (number ≡ 18) ⊎ ((number ≡ 21) ⊎ (number ≡ 22)) → gate_of g number next s ≡ (Went, t) → Lands s t

-- ---- every other gate that goes on goes on at the next address, and leaves r2 to r14 and the flags

pub record GoesAfter (next : ℕ) (s t : State) : Type 0 where
  pub pc : t.regs.pc ≡ next
  pub others : (k : ℕ) → 2 ≤ k → slice_index t.regs.r k ≡ slice_index s.regs.r k
  pub flags : SameFlags s.regs t.regs

abbrev pub GatesGoAfter : Type 0
GatesGoAfter =
    (g : Tables) (number next : ℕ) (s t : State) → number ≢ 18 → number ≢ 21 → number ≢ 22 → gate_of g number next s ≡ (Went, t) → GoesAfter next s t
