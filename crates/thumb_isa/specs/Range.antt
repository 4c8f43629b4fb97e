-- What the fields of a decoded instruction may be.
use Rattle.std.specs.Prelude.{◌≡◌, ◌≢◌, ℕ, ℤ, pos, negsuc, ◌%◌, ◌<◌, ◌≤◌, ◌^◌, nat_le, if◌then◌else◌}
use Rattle.thumb_isa.specs.declared.instr.Instr.{Instr}
use Rattle.thumb_isa.specs.declared.instr.Instr.TheVariants.{ShiftImm, AddSubReg, AddSubImm3, Imm8, Alu, AddHigh, CmpHigh, MovHigh, Bx, Blx, LdrLit, MemReg, MemImm, MemSp, Adr, AddRdSp, AddSp, SubSp, Extend, Rev, Push, Pop, Hint, Stm, Ldm, BCond, Svc, B, Bl, Barrier, Cbz, BWide, MovW, MovT, Div}
use Rattle.thumb_isa.specs.declared.instr.Decoded.{Decoded}
use Rattle.thumb_isa.specs.declared.instr.Decoded.TheVariants.{Is, Undefined, Unpredictable, NotInProfile}

-- an offset that is a multiple of `scale`, from 0 up and below `limit`
abbrev pub IsForward : ℕ → ℕ → ℤ → Type 0
IsForward scale limit (pos n) = (n < limit) × (n % scale ≡ 0)
IsForward scale limit (negsuc n) = ⊥

-- an even offset from -half up and below half
abbrev pub IsBranch : ℕ → ℤ → Type 0
IsBranch half (pos n) = (n < half) × (n % 2 ≡ 0)
IsBranch half (negsuc n) = (n < half) × (n % 2 ≡ 1)

-- any register but sp and pc
abbrev pub IsGeneral : ℕ → Type 0
IsGeneral r = (r < 15) × (r ≢ 13)

abbrev pub InRange : Instr → Type 0
InRange (ShiftImm op d m n) = (op < 3) × (d < 8) × (m < 8) × (n ≤ 32)
InRange (AddSubReg sub d n m) = (d < 8) × (n < 8) × (m < 8)
InRange (AddSubImm3 sub d n imm) = (d < 8) × (n < 8) × (imm < 8)
InRange (Imm8 op d imm) = (op < 4) × (d < 8) × (imm < 256)
InRange (Alu op d m) = (op < 16) × (d < 8) × (m < 8)
InRange (AddHigh d m) = (d < 16) × (m < 16)
InRange (CmpHigh n m) = (n < 15) × (m < 15)
InRange (MovHigh d m) = (d < 16) × (m < 16)
InRange (Bx m) = m < 15
InRange (Blx m) = m < 15
InRange (LdrLit t off) = (t < 8) × IsForward 4 1024 off
InRange (MemReg op t n m) = (op < 8) × (t < 8) × (n < 8) × (m < 8)
InRange (MemImm op t n off) = (op < 6) × (t < 8) × (n < 8) × IsForward 1 128 off
InRange (MemSp load t off) = (t < 8) × IsForward 4 1024 off
InRange (Adr d off) = (d < 8) × IsForward 4 1024 off
InRange (AddRdSp d off) = (d < 8) × IsForward 4 1024 off
InRange (AddSp off) = IsForward 4 512 off
InRange (SubSp off) = IsForward 4 512 off
InRange (Extend op d m) = (op < 4) × (d < 8) × (m < 8)
InRange (Rev op d m) = (op < 4) × (d < 8) × (m < 8)
InRange (Push list) = (0 < list) × (list < 2 ^ 15) × (list % 2 ^ 14 < 2 ^ 8)
InRange (Pop list) = (0 < list) × (list < 2 ^ 16) × (list % 2 ^ 15 < 2 ^ 8)
InRange (Hint n) = n < 16
InRange (Stm n list) = (n < 8) × (0 < list) × (list < 2 ^ 8)
InRange (Ldm n list) = (n < 8) × (0 < list) × (list < 2 ^ 8)
InRange (BCond cond off) = (cond < 14) × IsBranch (2 ^ 8) off
InRange (Svc imm) = imm < 256
InRange (B off) = IsBranch (2 ^ 11) off
InRange (Bl off) = IsBranch (2 ^ 24) off
InRange (Barrier op option) = (op < 3) × (option < 16)
InRange (Cbz nonzero n off) = (n < 8) × IsForward 2 128 off
InRange (BWide off) = IsBranch (2 ^ 24) off
InRange (MovW d imm) = IsGeneral d × (imm < 2 ^ 16)
InRange (MovT d imm) = IsGeneral d × (imm < 2 ^ 16)
InRange (Div signed d n m) = IsGeneral d × IsGeneral n × IsGeneral m

-- the fields of an instruction that was decoded are in range
abbrev pub IsInRange : Decoded → Type 0
IsInRange (Is i size) = InRange i
IsInRange Undefined = Unit {0}
IsInRange Unpredictable = Unit {0}
IsInRange NotInProfile = Unit {0}

-- an instruction that was decoded has this size in bytes
abbrev pub IsOfSize : ℕ → Decoded → Type 0
IsOfSize n (Is i size) = size ≡ n
IsOfSize n Undefined = Unit {0}
IsOfSize n Unpredictable = Unit {0}
IsOfSize n NotInProfile = Unit {0}

-- the size of an instruction, by its first halfword
abbrev pub size_of : ℕ → ℕ
size_of first = if nat_le 0xe800 first then 4 else 2
