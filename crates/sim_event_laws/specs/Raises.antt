-- The guarded words that an event releases when sp rises (docs/rules/machine.md, "An event").
use Rattle.std.specs.Prelude.{◌≡◌, ◌⊎◌, ◌↔◌, ℕ, ◌<◌, ◌≤◌, List}
use Rattle.run_events.specs.Runs.{Goes}
use Rattle.eh_bus.specs.Lists.{Has}
use Rattle.eh_bus.specs.Memory.{Memory}
use Rattle.thumb_ahead.specs.Ahead.{pushes_some}
use Rattle.thumb_core.specs.Step.{instr_for}
use Rattle.thumb_core.specs.declared.regs.Regs.{Regs}
use Rattle.thumb_core.specs.declared.regs.Stepped.{Stepped}
use Rattle.thumb_core.specs.declared.regs.Stepped.TheVariants.{Gate}
use Rattle.eh_gates.specs.State.{State, reg}
use Rattle.sim_machines.specs.Program.{Program, profile_in}
use Rattle.sim_machines.specs.Machine.{machine_event}
use Rattle.sim_event_laws.specs.Stack.{Does}

-- among the words that are guarded in the memory left by the instruction
pub record LetsGo (s t : State) (m : Memory) : Type 0 where
  -- if sp (r13) rose, exactly those stay that are at the new sp or above it, or below the running stack
  pub rose : reg s 13 < reg t 13 → (g : ℕ) → Has t.memory.guards g ↔ (Has m.guards g × ((reg t 13 ≤ g) ⊎ (g < m.home.0)))
  -- if it didn't, the memory is as the instruction left it
  pub fell : reg t 13 ≤ reg s 13 → t.memory ≡ m

-- for an instruction that is no gate and pushes nothing, and for which no check failed
abbrev pub RaisesLetGo : Type 0
RaisesLetGo =
    (p : Program) (s t : State) (input text left : List ℕ) (what : Stepped) (after : Regs) (m : Memory) → Does p s what after m → ((number : ℕ) → what ≡ Gate number → ⊥)
    → pushes_some (instr_for (profile_in p) s.memory s.regs.pc) ≡ 0 → machine_event p s input ≡ Goes t text left → LetsGo s t m
