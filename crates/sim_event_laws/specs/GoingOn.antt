-- Where a run goes on after a gate (docs/rules/machine.md, "An event", "Gates").
use Rattle.std.specs.Prelude.{◌≡◌, ◌≢◌, ℕ, ◌+◌, ◌%◌, ◌^◌, ◌<◌, ◌≤◌, true, List, [], ◌∷◌, Some}
use Rattle.run_events.specs.Runs.{Goes, Ends}
use Rattle.eh_bus.specs.Lists.{Has}
use Rattle.thumb_isa.specs.declared.instr.Instr.TheVariants.{Svc}
use Rattle.thumb_core.specs.Step.{instr_for}
use Rattle.thumb_core.specs.declared.ends.TrapKind.TheVariants as kind
use Rattle.thumb_core.specs.declared.ends.End.TheVariants as the_end
use Rattle.eh_gates.specs.State.{State, reg}
use Rattle.sim_machines.specs.Program.{Program, profile_in}
use Rattle.sim_machines.specs.Machine.{machine_event}

-- a checked gate stands at pc, and the instruction after it at `next`
pub record StandsAt (p : Program) (s : State) (number next : ℕ) : Type 0 where
  pub checked : (p.look s.regs.pc).is_instr ≡ true
  pub size : ℕ
  pub gate : instr_for (profile_in p) s.memory s.regs.pc ≡ Some (Svc number, size)
  pub place : next ≡ s.regs.pc + size
  pub is_even : next % 2 ≡ 0
  pub small : next < 2 ^ 32

-- the gates that go on at the next address
abbrev pub gates_that_go_on : List ℕ
gates_that_go_on = 1 ∷ 2 ∷ 16 ∷ 17 ∷ 19 ∷ 20 ∷ 25 ∷ []

-- a gate that goes on, except 18, 21 and 22, goes on at the next address
abbrev pub GatesGoOn : Type 0
GatesGoOn =
    (p : Program) (s t : State) (input text left : List ℕ) (number next : ℕ) → StandsAt p s number next → number ≢ 18 → number ≢ 21 → number ≢ 22
    → machine_event p s input ≡ Goes t text left → t.regs.pc ≡ next

-- if a function begins at that address, the gate isn't done and the run ends by FellOff
abbrev pub GatesFallOff : Type 0
GatesFallOff =
    (p : Program) (s : State) (input : List ℕ) (number next : ℕ) → StandsAt p s number next → Has gates_that_go_on number → s.memory.home.0 ≤ reg s 13
    → (p.look next).is_function ≡ true → machine_event p s input ≡ Ends (the_end.Trap kind.FellOff next s.regs.pc) s
