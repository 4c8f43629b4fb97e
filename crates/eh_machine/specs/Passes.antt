-- One instruction before its gate: what a call that does it guarantees.
use Rattle.std.specs.Prelude.{◌≡◌, ◌+◌, ◌%◌, ◌^◌, ◌≤◌, ℕ, ℤ, Bool, true, false, length, Some, Result, Ok, IfErr}
use Rattle.eh_bus.specs.Memory.{Memory}
use Rattle.run_gates.specs.Ends.{is_fault}
use Rattle.thumb_isa.specs.Range.{InRange}
use Rattle.thumb_isa.specs.declared.instr.Instr.{Instr}
use Rattle.thumb_isa.specs.declared.instr.Instr.TheVariants.{Bl}
use Rattle.thumb_core.specs.Data.{forward}
use Rattle.thumb_core.specs.Registers.{even}
use Rattle.thumb_core.specs.Step.{instr_for}
use Rattle.thumb_core.specs.declared.regs.Regs.{Regs}
use Rattle.thumb_core.specs.declared.regs.Stepped.{Stepped}
use Rattle.thumb_core.specs.declared.regs.Stepped.TheVariants.{Gate}
use Rattle.thumb_core.specs.declared.ends.End.{End}
use Rattle.thumb_ahead.specs.Ahead.{branches, pushed_registers}
use Rattle.eh_trace.specs.Trace.{Trace}
use Rattle.eh_gates.specs.declared.state.Core.{Core}
use Rattle.eh_gates.specs.State.{state_of}
use Rattle.sim_machines.specs.Program.{Program, profile_in}
use Rattle.eh_machine.specs.declared.pass.CheckedInstr.{CheckedInstr}
use Rattle.sim_machines.specs.Machine.{PassResult, pass_instruction, with_pc_of}

-- ---- what is known of the instruction at an address before it is done

abbrev pub at_of : CheckedInstr → Instr × ℕ
at_of at = (at.instr, at.size)

-- where an instruction at an address goes on by itself: a BL at its target, any other at the next instruction
abbrev pub next_address : Instr → ℕ → ℕ → ℕ
next_address (Bl off) size a = even (forward ((a + 4) % 2 ^ 32) off % 2 ^ 32)
next_address i size a = even ((a + size) % 2 ^ 32)

-- What the checker says of the address: it was reached, whether it is a lowering place, whether a function begins where the instruction
-- goes on by itself, and which words that it pushes are saves.
pub record HasRoles (p : Program) (a : ℕ) (at : CheckedInstr) : Type 0 where
  pub reached : (p.look a).is_instr ≡ true
  pub lowers : at.lowers ≡ (p.look a).lowers
  pub meets : at.meets_function ≡ (p.look (next_address at.instr at.size a)).is_function
  pub saves : at.saves ≡ (p.look a).saves

-- memory has this instruction at the address, by the rows of the program's profile, and its operands are in range
pub record IsFetched (p : Program) (a : ℕ) (m : Memory) (at : CheckedInstr) : Type 0 where
  pub there : instr_for (profile_in p) m a ≡ Some (at_of at)
  pub range : InRange at.instr
  pub roles : HasRoles p a at

-- a BL
pub record IsCall (i : Instr) : Type 0 where
  pub off : ℤ
  pub is : i ≡ Bl off

-- whether it branches, and how many words it pushes
pub record Tells (i : Instr) (regs : Regs) (is_taken : Bool) (pushes : ℕ) : Type 0 where
  pub taken : is_taken ≡ branches i regs
  pub count : pushes ≡ length (pushed_registers i)
  pub few : pushes ≤ 16

-- ---- what was done

-- A call went from registers, globals and a memory to new ones, as `passed` does, whatever the events are. Its end is no fault of the
-- outside, and a gate's instruction changes pc alone.
pub record Passes (p : Program) (core : Core) (m : Memory) (result : Result Stepped End) (core' : Core) (m' : Memory) : Type 0 where
  pub does : (events : Trace) → ◌≡◌ {A = PassResult} (result, state_of core' m' events) (pass_instruction p (state_of core m events))
  pub inside : IfErr result (λ end. is_fault end ≡ false)
  pub gate : (number : ℕ) (events : Trace) → result ≡ Ok (Gate number) → with_pc_of (state_of core' m' events) core.regs.pc ≡ state_of core m events

-- an instruction that is no gate was done, and the run goes on
pub record PassesOn (p : Program) (core : Core) (m : Memory) (core' : Core) (m' : Memory) : Type 0 where
  pub what : Stepped
  pub no_gate : (number : ℕ) → what ≡ Gate number → ⊥
  pub passes : Passes p core m (Ok what) core' m'

-- The same for a call that tries an instruction: if it was done the run goes on, otherwise nothing is changed.
pub record TriesInstruction (p : Program) (core : Core) (m : Memory) (is_done : Bool) (core' : Core) (m' : Memory) : Type 0 where
  pub done : is_done ≡ true → PassesOn p core m core' m'
  pub left : is_done ≡ false → (core' ≡ core) × (m' ≡ m)
