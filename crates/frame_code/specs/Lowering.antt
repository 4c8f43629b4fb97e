-- A MOV into sp of the result of the subtraction before it (docs/rules/acceptance.md, "Lowering places").
use Rattle.std.specs.Prelude.{ℕ, ◌==◌, if◌then◌else◌, Bool, true, false, Option, Some, None}
use Rattle.thumb_isa.specs.declared.instr.Instr.{Instr}
use Rattle.thumb_isa.specs.declared.instr.Instr.TheVariants.{AddSubReg, MovHigh}
use Rattle.thumb_core.specs.declared.regs.TheConstants.{SP}

-- a SUB of two registers
abbrev pub subtracts_into : Instr → Option ℕ
subtracts_into (AddSubReg true d n m) = Some d
subtracts_into i = None

-- a MOV into sp
abbrev pub sets_sp_from : Instr → Option ℕ
sets_sp_from (MovHigh d m) = if d == SP then Some m else None
sets_sp_from i = None

abbrev pub same_register : Option ℕ → Option ℕ → Bool
same_register (Some d) (Some m) = d == m
same_register a b = false

-- the second instruction copies into sp the result of the first, a subtraction
abbrev pub lowers_by : Option Instr → Option Instr → Bool
lowers_by (Some i) (Some j) = same_register (subtracts_into i) (sets_sp_from j)
lowers_by a b = false
