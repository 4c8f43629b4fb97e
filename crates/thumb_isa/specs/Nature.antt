-- The nature of each instruction (Armv6-M Architecture Reference Manual, DDI 0419, and Armv8-M, DDI 0553;
-- docs/rules/instructions.md, "Natures").
-- Every instruction has its own line in `known`. Questions about an instruction, before it is executed or about its
-- effect, are defined per nature. thumb_core's `NaturesFit` is the law that the effects fit this table.
use Rattle.std.specs.Prelude.{ℕ, ℤ, ◌<◌, Bool, true, false, Option, Some, None}
use Rattle.thumb_isa.specs.declared.instr.Instr.{Instr}
use Rattle.thumb_isa.specs.declared.instr.Instr.TheVariants.{ShiftImm, AddSubReg, AddSubImm3, Imm8, Alu, AddHigh, CmpHigh, MovHigh, Bx, Blx, LdrLit, MemReg, MemImm, MemSp, Adr, AddRdSp, AddSp, SubSp, Extend, Rev, Push, Pop, Hint, Stm, Ldm, BCond, Svc, B, Bl, Barrier, Cbz, BWide, MovW, MovT, Div}
use Rattle.thumb_isa.specs.Range.{IsGeneral, InRange}

-- a value in a low register d that may derive from another register: a copy, or a known offset from it
pub data Derivation : Type 0 where
  -- LSL, LSR and ASR by n; LSL by 0 is a copy
  Shifts : (op d m n : ℕ) → Derivation
  -- ADD and SUB of three bits
  AddsThree : (sub : Bool) (d n imm : ℕ) → Derivation
  -- MOV, CMP, ADD and SUB of eight bits; CMP writes no register
  AddsEight : (op d imm : ℕ) → Derivation
  -- the sixteen operations of two registers; TST, CMP and CMN write none
  Combines : (op d m : ℕ) → Derivation
  -- ADD of sp and a number
  AddsToSp : (d : ℕ) (off : ℤ) → Derivation

-- a load or a store of the low register t
pub data Transfer : Type 0 where
  -- a load of a word near the instruction
  NearPc : (t : ℕ) (off : ℤ) → Transfer
  -- at the sum of two registers: op 0 to 2 store, 3 to 7 load
  AtSum : (op t n m : ℕ) → Transfer
  -- at a register and an offset: op 0, 2 and 4 store, 1, 3 and 5 load
  AtOffset : (op t n : ℕ) (off : ℤ) → Transfer
  -- at sp and an offset
  AtSp : (load : Bool) (t : ℕ) (off : ℤ) → Transfer

-- a way to go on other than to the next instruction only
pub data Branch : Type 0 where
  BranchesTo : (off : ℤ) → Branch
  -- under a condition; else to the next instruction
  BranchesIf : (cond : ℕ) (off : ℤ) → Branch
  -- if a register is 0, or isn't; else to the next instruction
  BranchesOn : (nonzero : Bool) (n : ℕ) (off : ℤ) → Branch
  -- a call, by an offset or, without one, by a register
  Calls : (off : Option ℤ) → Branch
  -- a branch to a register's value, which may be a return
  ReturnsBy : (m : ℕ) → Branch
  -- a gate
  Gates : (number : ℕ) → Branch

pub data Nature : Type 0 where
  -- writes an untracked value to register d, which is neither sp nor pc, and falls through
  Works : (d : ℕ) → Nature
  -- writes no register and falls through
  Idles : Nature
  -- writes a low register, if any, and falls through
  Derives : Derivation → Nature
  -- ADD and MOV of any two registers; into pc they branch
  AddsHigh : (d m : ℕ) → Nature
  MovesHigh : (d m : ℕ) → Nature
  Transfers : Transfer → Nature
  -- STM and LDM
  StoresList : (n list : ℕ) → Nature
  LoadsList : (n list : ℕ) → Nature
  -- ADD and SUB of a number to sp
  RaisesSp : (off : ℤ) → Nature
  LowersSp : (off : ℤ) → Nature
  PushesList : (list : ℕ) → Nature
  -- with pc in the list it is a return
  PopsList : (list : ℕ) → Nature
  Goes : Branch → Nature

-- what is known of an instruction: its nature, and whether only the second profile has it
pub record ProfiledNature : Type 0 where
  pub nature : Nature
  pub late : Bool

-- one of both profiles
abbrev pub in_both_profiles : Nature → ProfiledNature
in_both_profiles n = record { nature = n; late = false }

-- one of the second alone
abbrev pub in_second_profile : Nature → ProfiledNature
in_second_profile n = record { nature = n; late = true }

-- the table
abbrev pub profiled_nature : Instr → ProfiledNature
profiled_nature (ShiftImm op d m n) = in_both_profiles (Derives (Shifts op d m n))
profiled_nature (AddSubReg sub d n m) = in_both_profiles (Works d)
profiled_nature (AddSubImm3 sub d n imm) = in_both_profiles (Derives (AddsThree sub d n imm))
profiled_nature (Imm8 op d imm) = in_both_profiles (Derives (AddsEight op d imm))
profiled_nature (Alu op d m) = in_both_profiles (Derives (Combines op d m))
profiled_nature (AddHigh d m) = in_both_profiles (AddsHigh d m)
profiled_nature (CmpHigh n m) = in_both_profiles Idles
profiled_nature (MovHigh d m) = in_both_profiles (MovesHigh d m)
profiled_nature (Bx m) = in_both_profiles (Goes (ReturnsBy m))
profiled_nature (Blx m) = in_both_profiles (Goes (Calls None))
profiled_nature (LdrLit t off) = in_both_profiles (Transfers (NearPc t off))
profiled_nature (MemReg op t n m) = in_both_profiles (Transfers (AtSum op t n m))
profiled_nature (MemImm op t n off) = in_both_profiles (Transfers (AtOffset op t n off))
profiled_nature (MemSp load t off) = in_both_profiles (Transfers (AtSp load t off))
profiled_nature (Adr d off) = in_both_profiles (Works d)
profiled_nature (AddRdSp d off) = in_both_profiles (Derives (AddsToSp d off))
profiled_nature (AddSp off) = in_both_profiles (RaisesSp off)
profiled_nature (SubSp off) = in_both_profiles (LowersSp off)
profiled_nature (Extend op d m) = in_both_profiles (Works d)
profiled_nature (Rev op d m) = in_both_profiles (Works d)
profiled_nature (Push list) = in_both_profiles (PushesList list)
profiled_nature (Pop list) = in_both_profiles (PopsList list)
profiled_nature (Hint n) = in_both_profiles Idles
profiled_nature (Stm n list) = in_both_profiles (StoresList n list)
profiled_nature (Ldm n list) = in_both_profiles (LoadsList n list)
profiled_nature (BCond cond off) = in_both_profiles (Goes (BranchesIf cond off))
profiled_nature (Svc imm) = in_both_profiles (Goes (Gates imm))
profiled_nature (B off) = in_both_profiles (Goes (BranchesTo off))
profiled_nature (Bl off) = in_both_profiles (Goes (Calls (Some off)))
profiled_nature (Barrier op option) = in_both_profiles Idles
profiled_nature (Cbz nonzero n off) = in_second_profile (Goes (BranchesOn nonzero n off))
profiled_nature (BWide off) = in_second_profile (Goes (BranchesTo off))
profiled_nature (MovW d imm) = in_second_profile (Works d)
profiled_nature (MovT d imm) = in_second_profile (Works d)
profiled_nature (Div signed d n m) = in_second_profile (Works d)

abbrev pub nature : Instr → Nature
nature i = (profiled_nature i).nature

-- ---- what is asked of a nature

-- the low register that is written, if any
abbrev pub derived_register : Derivation → ℕ
derived_register (Shifts op d m n) = d
derived_register (AddsThree sub d n imm) = d
derived_register (AddsEight op d imm) = d
derived_register (Combines op d m) = d
derived_register (AddsToSp d off) = d

abbrev pub transfer_register : Transfer → ℕ
transfer_register (NearPc t off) = t
transfer_register (AtSum op t n m) = t
transfer_register (AtOffset op t n off) = t
transfer_register (AtSp load t off) = t

-- it loads or stores
abbrev pub is_access : Nature → Bool
is_access (Works d) = false
is_access Idles = false
is_access (Derives v) = false
is_access (AddsHigh d m) = false
is_access (MovesHigh d m) = false
is_access (Transfers t) = true
is_access (StoresList n list) = true
is_access (LoadsList n list) = true
is_access (RaisesSp off) = false
is_access (LowersSp off) = false
is_access (PushesList list) = true
is_access (PopsList list) = true
is_access (Goes b) = false

-- the branch, call, return by a register or SVC that it is, if it is one
abbrev pub branch_of : Nature → Option Branch
branch_of (Works d) = None
branch_of Idles = None
branch_of (Derives v) = None
branch_of (AddsHigh d m) = None
branch_of (MovesHigh d m) = None
branch_of (Transfers t) = None
branch_of (StoresList n list) = None
branch_of (LoadsList n list) = None
branch_of (RaisesSp off) = None
branch_of (LowersSp off) = None
branch_of (PushesList list) = None
branch_of (PopsList list) = None
branch_of (Goes b) = Some b

-- ---- a law of the table

-- the register that is written is low, or, for an instruction that works on one, neither sp nor pc
abbrev pub WritesWell : Nature → Type 0
WritesWell (Works d) = IsGeneral d
WritesWell Idles = Unit {0}
WritesWell (Derives v) = derived_register v < 8
WritesWell (AddsHigh d m) = Unit {0}
WritesWell (MovesHigh d m) = Unit {0}
WritesWell (Transfers t) = transfer_register t < 8
WritesWell (StoresList n list) = n < 8
WritesWell (LoadsList n list) = n < 8
WritesWell (RaisesSp off) = Unit {0}
WritesWell (LowersSp off) = Unit {0}
WritesWell (PushesList list) = Unit {0}
WritesWell (PopsList list) = Unit {0}
WritesWell (Goes b) = Unit {0}

-- .. of each instruction whose fields are in range
abbrev pub AllWriteWell : Type 0
AllWriteWell = (i : Instr) → InRange i → WritesWell (nature i)
