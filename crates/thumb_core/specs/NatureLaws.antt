-- The table of natures (thumb_isa's Nature) fits the effects: what an instruction of each nature leaves, if none of its
-- loads and stores is refused.
use Rattle.std.specs.Prelude.{◌≡◌, ◌⊎◌, ℕ, ℤ, ◌+◌, ◌-◌, ◌%◌, ◌^◌, Bool, true, false, List, None, if◌then◌else◌}
use Rattle.thumb_isa.specs.declared.instr.Instr.{Instr}
use Rattle.thumb_isa.specs.Nature.{Branch, BranchesTo, BranchesIf, BranchesOn, Calls, ReturnsBy, Gates, Nature, Works, Idles, Derives, AddsHigh, MovesHigh, Transfers, StoresList, LoadsList, RaisesSp, LowersSp, PushesList, PopsList, Goes, nature, derived_register, transfer_register, is_access}
use Rattle.eh_bus.specs.Memory.{Memory}
use Rattle.thumb_core.specs.declared.regs.TheConstants.{SP}
use Rattle.thumb_core.specs.declared.regs.Regs.{Regs}
use Rattle.thumb_core.specs.declared.regs.Stepped.{Stepped}
use Rattle.thumb_core.specs.declared.regs.Stepped.TheVariants.{Done, Call, Return, Gate, Trap}
use Rattle.thumb_core.specs.Registers.{reg, write_register, even, with_next}
use Rattle.thumb_core.specs.Outcome.{Outcome}
use Rattle.thumb_core.specs.Branch.{passes_condition, takes_branch, branch, write_high}
use Rattle.thumb_core.specs.Lists.{bytes_of}
use Rattle.thumb_core.specs.Step.{effect}
use Rattle.thumb_core.specs.Stores.{stores_of}

-- a statement about everything but traps
abbrev pub UnlessTrap : Stepped → Type 0 → Type 0
UnlessTrap (Trap trap) P = Unit {0}
UnlessTrap Done P = P
UnlessTrap (Call target ret) P = P
UnlessTrap (Return to) P = P
UnlessTrap (Gate number) P = P

-- pc advances to the next instruction, with these registers except pc and flags
pub record GoesOn (r : List ℕ) (size : ℕ) (regs : Regs) (o : Outcome) : Type 0 where
  pub done : o.0 ≡ Done
  pub pc : o.1.pc ≡ even ((regs.pc + size) % 2 ^ 32)
  pub registers : o.1.r ≡ r

abbrev pub Stays : ℕ → Regs → Outcome → Type 0
Stays size regs o = GoesOn regs.r size regs o

-- only register d is written
pub record Puts (d size : ℕ) (regs : Regs) (o : Outcome) : Type 0 where
  pub value : ℕ
  pub on : GoesOn (write_register regs.r d value) size regs o

abbrev pub PutsAtMost : ℕ → ℕ → Regs → Outcome → Type 0
PutsAtMost d size regs o = Puts d size regs o ⊎ Stays size regs o

-- a register is written that may be pc
pub record PutsHigh (d size : ℕ) (regs : Regs) (o : Outcome) : Type 0 where
  pub value : ℕ
  pub done : o.0 ≡ Done
  pub leaves : o.1 ≡ write_high d value size regs

-- a branch that is taken if a test holds changes only pc
pub record BranchesWhere (test : Bool) (off : ℤ) (size : ℕ) (regs : Regs) (o : Outcome) : Type 0 where
  pub done : o.0 ≡ Done
  pub leaves : o.1 ≡ (if test then branch off regs else with_next size regs)

-- For calls, returns and SVCs see `Leaves`.
abbrev pub FitsBranch : Branch → ℕ → Regs → Outcome → Type 0
FitsBranch (BranchesTo off) size regs o = BranchesWhere true off size regs o
FitsBranch (BranchesIf cond off) size regs o = BranchesWhere (passes_condition cond regs) off size regs o
FitsBranch (BranchesOn nonzero n off) size regs o = BranchesWhere (takes_branch nonzero (reg regs n)) off size regs o
FitsBranch (Calls off) size regs o = Unit {0}
FitsBranch (ReturnsBy m) size regs o = Unit {0}
FitsBranch (Gates number) size regs o = Unit {0}

abbrev pub Fits : Nature → ℕ → Regs → Outcome → Type 0
Fits (Works d) size regs o = Puts d size regs o
Fits Idles size regs o = Stays size regs o
Fits (Derives v) size regs o = PutsAtMost (derived_register v) size regs o
Fits (AddsHigh d m) size regs o = PutsHigh d size regs o
Fits (MovesHigh d m) size regs o = PutsHigh d size regs o
Fits (Transfers t) size regs o = UnlessTrap o.0 (PutsAtMost (transfer_register t) size regs o)
Fits (StoresList n list) size regs o = UnlessTrap o.0 (GoesOn (write_register regs.r n (reg regs n + bytes_of list)) size regs o)
Fits (LoadsList n list) size regs o = UnlessTrap o.0 (GoesOn o.1.r size regs o)
Fits (RaisesSp off) size regs o = Puts SP size regs o
Fits (LowersSp off) size regs o = Puts SP size regs o
Fits (PushesList list) size regs o = UnlessTrap o.0 (GoesOn (write_register regs.r SP ((reg regs SP + (2 ^ 32 - bytes_of list)) % 2 ^ 32)) size regs o)
Fits (PopsList list) size regs o = Unit {0}
Fits (Goes b) size regs o = FitsBranch b size regs o

-- an instruction leaves the registers as its nature says, and one that neither loads nor stores leaves the memory
pub record NaturesFit : Type 0 where
  pub registers : (i : Instr) (size : ℕ) (regs : Regs) (m : Memory) → Fits (nature i) size regs (effect i size regs m)
  pub memory : (i : Instr) (size : ℕ) (regs : Regs) (m : Memory) → is_access (nature i) ≡ false → (effect i size regs m).2 ≡ m
  pub stores : (i : Instr) (regs : Regs) → is_access (nature i) ≡ false → stores_of i regs ≡ None
