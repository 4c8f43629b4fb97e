-- What is known of an instruction before it is executed (docs/rules/machine.md, "An event"): whether it branches, how many
-- words it pushes, and whether it otherwise keeps sp.
use Rattle.std.specs.Prelude.{◌≡◌, ◌≤◌, ℕ, ◌==◌, Bool, true, false, not, List, [], length, Option, Some, None}
use Rattle.eh_bus.specs.Memory.{Memory}
use Rattle.thumb_isa.specs.declared.instr.Instr.{Instr}
use Rattle.thumb_isa.specs.Nature.{Branch, BranchesTo, BranchesIf, BranchesOn, Calls, ReturnsBy, Gates, Nature, Works, Idles, Derives, AddsHigh, MovesHigh, Transfers, StoresList, LoadsList, RaisesSp, LowersSp, PushesList, PopsList, Goes, nature}
use Rattle.thumb_core.specs.Registers.{reg}
use Rattle.thumb_core.specs.Branch.{passes_condition, takes_branch}
use Rattle.thumb_core.specs.Words.{registers_of_list}
use Rattle.thumb_core.specs.declared.regs.TheConstants.{SP, PC}
use Rattle.thumb_core.specs.declared.regs.Regs.{Regs}
use Rattle.thumb_core.specs.declared.regs.Stepped.TheVariants.{Done}
use Rattle.thumb_core.specs.Step.{effect}
use Rattle.thumb_core.specs.Stores.{stores_of}
use Rattle.thumb_ahead.specs.declared.instruction.Ahead.{Ahead as Told}
use Rattle.thumb_ahead.specs.declared.instruction.Ahead.TheVariants.{FallThrough, Pushes, Jumps, Other}

-- a taken branch. Calls and returns are known from the result of the step
abbrev pub is_taken : Branch → Regs → Bool
is_taken (BranchesTo off) regs = true
is_taken (BranchesIf cond off) regs = passes_condition cond regs
is_taken (BranchesOn nonzero n off) regs = takes_branch nonzero (reg regs n)
is_taken (Calls off) regs = false
is_taken (ReturnsBy m) regs = false
is_taken (Gates number) regs = false

-- .. and an ADD or a MOV into pc
abbrev pub nature_branches : Nature → Regs → Bool
nature_branches (Works d) regs = false
nature_branches Idles regs = false
nature_branches (Derives v) regs = false
nature_branches (AddsHigh d m) regs = d == PC
nature_branches (MovesHigh d m) regs = d == PC
nature_branches (Transfers t) regs = false
nature_branches (StoresList n list) regs = false
nature_branches (LoadsList n list) regs = false
nature_branches (RaisesSp off) regs = false
nature_branches (LowersSp off) regs = false
nature_branches (PushesList list) regs = false
nature_branches (PopsList list) regs = false
nature_branches (Goes b) regs = is_taken b regs

abbrev pub branches : Instr → Regs → Bool
branches i regs = nature_branches (nature i) regs

-- the registers that a push stores; none for any other instruction
abbrev pub nature_pushed_registers : Nature → List ℕ
nature_pushed_registers (PushesList list) = registers_of_list list
nature_pushed_registers (Works d) = []
nature_pushed_registers Idles = []
nature_pushed_registers (Derives v) = []
nature_pushed_registers (AddsHigh d m) = []
nature_pushed_registers (MovesHigh d m) = []
nature_pushed_registers (Transfers t) = []
nature_pushed_registers (StoresList n list) = []
nature_pushed_registers (LoadsList n list) = []
nature_pushed_registers (RaisesSp off) = []
nature_pushed_registers (LowersSp off) = []
nature_pushed_registers (PopsList list) = []
nature_pushed_registers (Goes b) = []

abbrev pub pushed_registers : Instr → List ℕ
pushed_registers i = nature_pushed_registers (nature i)

-- the same for an instruction, if there is one; false if there is none
abbrev pub branches_some : Option (Instr × ℕ) → Regs → Bool
branches_some None regs = false
branches_some (Some (i, size)) regs = branches i regs

abbrev pub pushes_some : Option (Instr × ℕ) → ℕ
pushes_some None = 0
pushes_some (Some (i, size)) = length (pushed_registers i)

-- The instructions that write sp only by a push, and are no call, return, SVC or branch that is always taken. LDM is
-- left to the others, which are tested after they were executed.
abbrev pub may_go_on : Branch → Bool
may_go_on (BranchesTo off) = false
may_go_on (BranchesIf cond off) = true
may_go_on (BranchesOn nonzero n off) = true
may_go_on (Calls off) = false
may_go_on (ReturnsBy m) = false
may_go_on (Gates number) = false

abbrev pub nature_falls_through : Nature → Bool
nature_falls_through (Works d) = true
nature_falls_through Idles = true
nature_falls_through (Derives v) = true
nature_falls_through (AddsHigh d m) = not (d == SP)
nature_falls_through (MovesHigh d m) = not (d == SP)
nature_falls_through (Transfers t) = true
nature_falls_through (StoresList n list) = true
nature_falls_through (LoadsList n list) = false
nature_falls_through (RaisesSp off) = false
nature_falls_through (LowersSp off) = false
nature_falls_through (PushesList list) = true
nature_falls_through (PopsList list) = false
nature_falls_through (Goes b) = may_go_on b

abbrev pub is_fall_through : Instr → Bool
is_fall_through i = nature_falls_through (nature i)

-- .. an instruction that falls through and pushes n words
pub record IsFallThrough (i : Instr) (regs : Regs) (n : ℕ) : Type 0 where
  pub fall_through : is_fall_through i ≡ true
  pub taken : branches i regs ≡ false
  pub count : n ≡ length (pushed_registers i)
  pub few : n ≤ 16

-- .. a taken branch: it changes only pc
pub record IsJump (i : Instr) (regs : Regs) (to : ℕ) : Type 0 where
  pub taken : branches i regs ≡ true
  pub pushes : pushed_registers i ≡ []
  pub goes : (size : ℕ) (m : Memory) → effect i size regs m ≡ (Done, record regs { pc = to }, m)

-- .. any other instruction, which stores nothing
pub record IsOther (i : Instr) (regs : Regs) (is_taken : Bool) : Type 0 where
  pub taken : is_taken ≡ branches i regs
  pub stores : stores_of i regs ≡ None
  pub pushes : pushed_registers i ≡ []

abbrev pub IsAhead : Instr → Regs → Told → Type 0
IsAhead i regs FallThrough = IsFallThrough i regs 0
IsAhead i regs (Pushes count) = IsFallThrough i regs count
IsAhead i regs (Jumps to) = IsJump i regs to
IsAhead i regs (Other taken) = IsOther i regs taken
