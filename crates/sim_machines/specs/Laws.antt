-- What users can rely on for one event (docs/rules/machine.md, "Laws").
use Rattle.std.specs.Prelude.{◌≡◌, ℕ, ◌<◌, ◌≤◌, ◌⊎◌, ◌↔◌, List}
use Rattle.run_events.specs.Runs.{Ends}
use Rattle.eh_bus.specs.Lists.{Has}
use Rattle.eh_bus.specs.Memory.{Memory}
use Rattle.thumb_core.specs.declared.ends.End.{End}
use Rattle.eh_gates.specs.State.{State}
use Rattle.eh_gates.specs.Laws.{IsLeft}
use Rattle.sim_machines.specs.Program.{Program}
use Rattle.sim_machines.specs.Machine.{update_guards, machine_event}

-- an end leaves the registers as before its instruction, and unless it terminates also globals and memory
abbrev pub EndsLeave : Type 0
EndsLeave = (p : Program) (s t : State) (input : List ℕ) (end : End) → machine_event p s input ≡ Ends end t → IsLeft end s t

-- After an instruction that pushes no saves: if it raised sp, a word stays guarded exactly if it is at the new sp or above it, or below the
-- running stack. If it didn't raise sp, the guards stay.
pub record AreReleased (saves old new : ℕ) (m : Memory) : Type 0 where
  pub rose : (g : ℕ) → old < new → Has (update_guards saves 0 old new m).guards g ↔ (Has m.guards g × ((new ≤ g) ⊎ (g < m.home.0)))
  pub fell : new ≤ old → update_guards saves 0 old new m ≡ m

abbrev pub GuardsAreReleased : Type 0
GuardsAreReleased = (saves old new : ℕ) (m : Memory) → AreReleased saves old new m
