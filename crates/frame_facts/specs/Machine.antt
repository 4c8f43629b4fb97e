-- What a fact says of the machine's registers; the effects of register instructions keep it true.
use Rattle.std.specs.Prelude.{ℕ, ◌≡◌, ◌≢◌, ◌<◌, ◌≤◌, ◌+◌, ◌^◌, ◌==◌, Bool, false, List, length, Option, Some, None, pos, negsuc}
use Rattle.std.specs.List.{list_any}
use Rattle.thumb_isa.specs.declared.instr.Instr.{Instr}
use Rattle.thumb_isa.specs.declared.instr.Instr.TheVariants.{MovHigh}
use Rattle.thumb_isa.specs.Nature.{Derivation, Shifts, AddsThree, AddsEight, Combines, AddsToSp, Nature, Works, Idles, Derives, AddsHigh, MovesHigh, Transfers, StoresList, LoadsList, RaisesSp, LowersSp, PushesList, PopsList, Goes, nature}
use Rattle.thumb_core.specs.declared.regs.Regs.{Regs}
use Rattle.thumb_core.specs.Registers.{reg}
use Rattle.thumb_core.specs.Branch.{mov_high}
use Rattle.thumb_core.specs.Data.{data_effect}
use Rattle.frame_facts.specs.declared.facts.Source.{Source}
use Rattle.frame_facts.specs.declared.facts.Source.TheVariants.{Entry, SpAt, Other}
use Rattle.frame_facts.specs.declared.facts.Fact.{Fact}
use Rattle.frame_facts.specs.declared.facts.TheConstants.{DEEPEST}
use Rattle.frame_facts.specs.declared.saves.Prologue.{Prologue}
use Rattle.frame_facts.specs.Facts.{source, forget_registers}
use Rattle.frame_facts.specs.After.{effect}

-- what a source says of a register's value, given the registers at the entry and the CFA
abbrev pub Means : (ℕ → ℕ) → ℕ → Source → ℕ → Type 0
Means entry cfa (Entry k) value = value ≡ entry k
Means entry cfa (SpAt offset) value = value + offset ≡ cfa
Means entry cfa Other value = Unit {0}

-- the fact is true: each register has the value of its source, and sp is at the depth, or at or below it
pub record Describes (entry : ℕ → ℕ) (cfa : ℕ) (f : Fact) (regs : Regs) : Type 0 where
  pub long : length f.regs ≡ 14
  pub sources : (k : ℕ) → Means entry cfa (source f k) (reg regs k)
  pub sp : f.below ≡ false → reg regs 13 + f.depth ≡ cfa

-- registers of 32 bits, and a CFA with room for the deepest frame below it
pub record IsRoomy (cfa : ℕ) (regs : Regs) : Type 0 where
  pub count : length regs.r ≡ 15
  pub words : (k : ℕ) → reg regs k < 2 ^ 32
  pub room : DEEPEST ≤ cfa
  pub top : cfa < 2 ^ 32

-- the register that an instruction of the data group works on
abbrev pub written_register : Derivation → Option ℕ
written_register (Shifts op d m n) = Some d
written_register (AddsThree sub d n imm) = Some d
written_register (AddsEight op d imm) = Some d
written_register (Combines op d m) = Some d
written_register (AddsToSp d (pos off)) = Some d
written_register (AddsToSp d (negsuc off)) = None

abbrev pub nature_works_on : Nature → Option ℕ
nature_works_on (Works d) = Some d
nature_works_on Idles = None
nature_works_on (Derives v) = written_register v
nature_works_on (AddsHigh d m) = None
nature_works_on (MovesHigh d m) = None
nature_works_on (Transfers t) = None
nature_works_on (StoresList n list) = None
nature_works_on (LoadsList n list) = None
nature_works_on (RaisesSp off) = None
nature_works_on (LowersSp off) = None
nature_works_on (PushesList list) = None
nature_works_on (PopsList list) = None
nature_works_on (Goes b) = None

abbrev pub works_on : Instr → Option ℕ
works_on i = nature_works_on (nature i)

-- If a fact describes the registers before a register instruction that doesn't write sp, the fact after it describes the registers that
-- it leaves.
abbrev pub DataIsDescribed : Type 0
DataIsDescribed = (entry : ℕ → ℕ) (cfa : ℕ) (p : Prologue) (lowers : Bool) (at : ℕ) (i : Instr) (d : ℕ) (f g : Fact) (regs : Regs)
    → works_on i ≡ Some d → d ≢ 13 → IsRoomy cfa regs → Describes entry cfa f regs → effect p lowers at i f ≡ Some g
    → Describes entry cfa g (data_effect i regs)

-- So it is for MOV of any register to a low one.
abbrev pub MovesAreDescribed : Type 0
MovesAreDescribed = (entry : ℕ → ℕ) (cfa : ℕ) (p : Prologue) (lowers : Bool) (at d m size : ℕ) (f g : Fact) (regs : Regs)
    → d < 8 → IsRoomy cfa regs → Describes entry cfa f regs → effect p lowers at (MovHigh d m) f ≡ Some g
    → Describes entry cfa g (mov_high d m size regs)

-- If a fact describes registers, then after clobbering some of them it describes any that differ only in these, sp not among them. So a
-- call or a gate may leave anything in the registers that it may change.
abbrev pub ClobberingIsDescribed : Type 0
ClobberingIsDescribed = (entry : ℕ → ℕ) (cfa : ℕ) (clobbers : List ℕ) (f : Fact) (regs new : Regs)
    → Describes entry cfa f regs → ((k : ℕ) → list_any (λ j. j == k) clobbers ≡ false → reg new k ≡ reg regs k) → list_any (λ j. j == 13) clobbers ≡ false
    → Describes entry cfa (forget_registers clobbers f) new

pub record RegistersAreDescribed : Type 0 where
  pub worked_on : DataIsDescribed
  pub moves : MovesAreDescribed
  pub clobbering : ClobberingIsDescribed
