-- Frames of both machines that agree in all that the phases and a landing read of them (docs/rules/machine.md, "Laws").
use Rattle.std.specs.Prelude.{◌≡◌, ℕ, List, [], ◌∷◌, slice_index}
use Rattle.eh_phase.specs.Laws.{frames_through}
use Rattle.eh_phase.specs.Phases.{Frames, phase1, phase2}
use Rattle.eh_phase.specs.Verdict.{Meeting}
use Rattle.eh_phase.specs.declared.phase2.Goal.{Goal}
use Rattle.thumb_core.specs.declared.regs.TheConstants.{SP}
use Rattle.eh_gates.specs.State.{State}
use Rattle.eh_gates.specs.Landing.{enter_landing}
use Rattle.sim_machines.specs.Activations.{Activation, Recorded}
use Rattle.sim_machines.specs.ActivationMachine as machine

-- a frame's registers r4 to r11 and sp; the others aren't recorded by activations, and don't matter
abbrev pub preserved_registers : List ℕ → List ℕ
preserved_registers r =
    0 ∷ 0 ∷ 0 ∷ 0 ∷ slice_index r 4 ∷ slice_index r 5 ∷ slice_index r 6 ∷ slice_index r 7 ∷ slice_index r 8 ∷ slice_index r 9 ∷ slice_index r 10
    ∷ slice_index r 11 ∷ 0 ∷ slice_index r SP ∷ []

-- the same sites, sp, descriptors, r4 to r11 and end
abbrev pub Agree : Frames → Frames → Type 0
Agree fs gs = frames_through preserved_registers fs ≡ frames_through preserved_registers gs

-- both phases, and a landing in either machine, do the same with such frames
pub record AreOne (fs gs : Frames) : Type 0 where
  pub search : (m : Meeting) → phase1 m fs ≡ phase1 m gs
  pub bytes : (g : Goal) (from : ℕ) (s : State) (block object : ℕ) → enter_landing s block object (phase2 g from fs) ≡ enter_landing s block object (phase2 g from gs)
  pub recorded :
      (g : Goal) (from : ℕ) (s : Recorded) (acts : List Activation) (block object : ℕ)
      → machine.enter_landing s acts block object (phase2 g from fs) ≡ machine.enter_landing s acts block object (phase2 g from gs)

abbrev pub AgreeingFramesAreOne : Type 0
AgreeingFramesAreOne = (fs gs : Frames) → Agree fs gs → AreOne fs gs
