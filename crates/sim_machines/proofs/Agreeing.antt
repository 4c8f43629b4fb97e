-- Frames that agree in what is handed on are one to the phases and to a landing.
use Rattle.std.proofs.Common.{◌≡◌, ℕ, List, [], ◌∷◌, refl, sym, ap, ◌∙◌}
use Rattle.eh_phase.specs.Laws.{entered_through}
use Rattle.eh_phase.specs.Phases.{phase1, phase2}
use Rattle.eh_phase.specs.declared.phase2.Entered.{Entered}
use Rattle.eh_phase.specs.declared.phase2.Entered.TheVariants as enters
use Rattle.eh_phase.specs.declared.phase2.Goal.{Goal}
use Rattle.eh_phase.proofs.Speaks.{registers_are_handed_on}
use Rattle.eh_gates.specs.State.{State}
use Rattle.eh_gates.specs.Landing.{enter_landing}
use Rattle.sim_machines.specs.Activations.{Activation, Recorded}
use Rattle.sim_machines.specs.ActivationMachine as machine
use Rattle.sim_machines.specs.Agreeing.{preserved_registers, AgreeingFramesAreOne}

bytes_read : (s : State) (block object : ℕ) (e : Entered) → enter_landing s block object (entered_through preserved_registers e) ≡ enter_landing s block object e
bytes_read s block object (enters.Cleanup vrs pad next site) = refl
bytes_read s block object (enters.Catch vrs pad) = refl
bytes_read s block object (enters.Spec vrs pad) = refl
bytes_read s block object enters.Unexpected = refl
bytes_read s block object (enters.Terminate why) = refl

recorded_read : (s : Recorded) (acts : List Activation) (block object : ℕ) (e : Entered) → machine.enter_landing s acts block object (entered_through preserved_registers e) ≡ machine.enter_landing s acts block object e
recorded_read s [] block object (enters.Cleanup vrs pad next site) = refl
recorded_read s [] block object (enters.Catch vrs pad) = refl
recorded_read s [] block object (enters.Spec vrs pad) = refl
recorded_read s (a ∷ more) block object (enters.Cleanup vrs pad next site) = refl
recorded_read s (a ∷ more) block object (enters.Catch vrs pad) = refl
recorded_read s (a ∷ more) block object (enters.Spec vrs pad) = refl
recorded_read s [] block object enters.Unexpected = refl
recorded_read s [] block object (enters.Terminate why) = refl
recorded_read s (a ∷ more) block object enters.Unexpected = refl
recorded_read s (a ∷ more) block object (enters.Terminate why) = refl

pub are_one : AgreeingFramesAreOne
are_one fs gs e = record {
  search = λ m. sym ((registers_are_handed_on preserved_registers fs).search m) ∙ ap (phase1 m) e ∙ (registers_are_handed_on preserved_registers gs).search m;
  bytes = λ g from s block object.
      sym (bytes_read s block object (phase2 g from fs)) ∙ ap (enter_landing s block object) (same g from) ∙ bytes_read s block object (phase2 g from gs);
  recorded = λ g from s acts block object.
      sym (recorded_read s acts block object (phase2 g from fs)) ∙ ap (machine.enter_landing s acts block object) (same g from) ∙ recorded_read s acts block object (phase2 g from gs);
}
  where
    same : (g : Goal) (from : ℕ) → entered_through preserved_registers (phase2 g from fs) ≡ entered_through preserved_registers (phase2 g from gs)
    same g from =
        sym ((registers_are_handed_on preserved_registers fs).advance g from) ∙ ap (phase2 g from) e ∙ (registers_are_handed_on preserved_registers gs).advance g from
