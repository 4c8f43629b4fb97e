-- The words that a PUSH guards (docs/rules/machine.md, "An event").
use Rattle.std.specs.Prelude.{◌≡◌, ◌⊎◌, ◌↔◌, ℕ, ◌+◌, ◌*◌, ◌<◌, ◌≤◌, List, length, Some}
use Rattle.std.specs.Int.{bit_at}
use Rattle.run_events.specs.Runs.{Goes}
use Rattle.eh_bus.specs.Lists.{Has}
use Rattle.thumb_isa.specs.declared.instr.Instr.TheVariants.{Push}
use Rattle.thumb_core.specs.Step.{instr_for}
use Rattle.thumb_core.specs.Words.{registers_of_list}
use Rattle.eh_gates.specs.State.{State, reg}
use Rattle.sim_machines.specs.Program.{Program, profile_in}
use Rattle.sim_machines.specs.Machine.{machine_event}

-- word k of a push lies k words above the new sp; it is a save of its function if the checker found it to be one
pub record IsSave (saves list sp g : ℕ) : Type 0 where
  pub k : ℕ
  pub within : k < length (registers_of_list list)
  pub save : bit_at saves k ≡ 1
  pub place : g ≡ sp + 4 * k

-- after a PUSH exactly these words are guarded: those guarded before, and the saves among the words that it stored
abbrev pub PushesGuardTheirSaves : Type 0
PushesGuardTheirSaves =
    (p : Program) (s t : State) (input text left : List ℕ) (list size g : ℕ) → instr_for (profile_in p) s.memory s.regs.pc ≡ Some (Push list, size)
    → machine_event p s input ≡ Goes t text left → reg t 13 ≤ reg s 13
    → Has t.memory.guards g ↔ (Has s.memory.guards g ⊎ IsSave (p.look s.regs.pc).saves list (reg t 13) g)
