-- An instruction whose fields are in range writes a low register, or works on one that is neither sp nor pc. Which
-- instructions derive a value is told by their natures.
use Rattle.std.proofs.Common.{◌≡◌, ◌<◌, ℕ, ap, arith}
use Rattle.thumb_isa.specs.declared.instr.Instr.{Instr}
use Rattle.thumb_isa.specs.declared.instr.Instr.TheVariants.{ShiftImm, AddSubReg, AddSubImm3, Imm8, Alu, LdrLit, MemReg, MemImm, MemSp, Adr, AddRdSp, Extend, Rev, Stm, Ldm, MovW, MovT, Div}
use Rattle.thumb_isa.specs.Range.{IsGeneral}
use Rattle.thumb_isa.specs.Nature.{Derivation, Shifts, AddsThree, AddsEight, Combines, AddsToSp, Derives, nature, AllWriteWell}

low_general : (d : ℕ) → d < 8 → IsGeneral d
low_general d l = (omega (arith, l), λ e. omega (arith, l, e))

pub all_write_well : AllWriteWell
all_write_well (ShiftImm op d m n) r = r.1
all_write_well (AddSubReg sub d n m) r = low_general d r.0
all_write_well (AddSubImm3 sub d n imm) r = r.0
all_write_well (Imm8 op d imm) r = r.1
all_write_well (Alu op d m) r = r.1
all_write_well (LdrLit t off) r = r.0
all_write_well (MemReg op t n m) r = r.1
all_write_well (MemImm op t n off) r = r.1
all_write_well (MemSp load t off) r = r.0
all_write_well (Adr d off) r = low_general d r.0
all_write_well (AddRdSp d off) r = r.0
all_write_well (Extend op d m) r = low_general d r.1
all_write_well (Rev op d m) r = low_general d r.1
all_write_well (Stm n list) r = r.0
all_write_well (Ldm n list) r = r.0
all_write_well (MovW d imm) r = r.0
all_write_well (MovT d imm) r = r.0
all_write_well (Div signed d n m) r = r.0
all_write_well i r = tt

abbrev pub derived_instr : Derivation → Instr
derived_instr (Shifts op d m n) = ShiftImm op d m n
derived_instr (AddsThree sub d n imm) = AddSubImm3 sub d n imm
derived_instr (AddsEight op d imm) = Imm8 op d imm
derived_instr (Combines op d m) = Alu op d m
derived_instr (AddsToSp d off) = AddRdSp d off

same_derived : (v w : Derivation) → Derives v ≡ Derives w → v ≡ w
same_derived v w e = cc

pub derived_is : (i : Instr) (v : Derivation) → nature i ≡ Derives v → i ≡ derived_instr v
derived_is (ShiftImm op d m n) v e = ap derived_instr (same_derived (Shifts op d m n) v e)
derived_is (AddSubImm3 sub d n imm) v e = ap derived_instr (same_derived (AddsThree sub d n imm) v e)
derived_is (Imm8 op d imm) v e = ap derived_instr (same_derived (AddsEight op d imm) v e)
derived_is (Alu op d m) v e = ap derived_instr (same_derived (Combines op d m) v e)
derived_is (AddRdSp d off) v e = ap derived_instr (same_derived (AddsToSp d off) v e)
derived_is i v e = absurd cc
