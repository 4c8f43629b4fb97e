-- The instruction table (Armv6-M Architecture Reference Manual, DDI 0419): a list of rows, searched from the front; and the rows of a second
-- profile.
-- Names in comments are the titles of the manual's sections.
use Rattle.std.specs.Prelude.{ℕ, ◌+◌, ◌*◌, ◌^◌, ℤ, pos, Bool, true, false, ◌&&◌, Option, Some, None, ◌==◌, List, [], ◌∷◌, ◌++◌, bit_and, if◌then◌else◌}
use Rattle.thumb_isa.specs.declared.instr.Instr.{Instr}
use Rattle.thumb_isa.specs.declared.instr.Instr.TheVariants.{ShiftImm, AddSubReg, AddSubImm3, Imm8, Alu, AddHigh, CmpHigh, MovHigh, Bx, Blx, LdrLit, MemReg, MemImm, MemSp, Adr, AddRdSp, AddSp, SubSp, Extend, Rev, Push, Pop, Hint, Stm, Ldm, BCond, Svc, B, Bl, Barrier, Cbz, BWide, MovW, MovT, Div}
use Rattle.thumb_isa.specs.declared.instr.Decoded.{Decoded}
use Rattle.thumb_isa.specs.declared.instr.Decoded.TheVariants.{Is, Undefined, Unpredictable, NotInProfile}
use Rattle.thumb_isa.specs.declared.profile.Profile.{Profile}
use Rattle.thumb_isa.specs.declared.profile.Profile.TheVariants.{One, Two}
use Rattle.thumb_isa.specs.Fields.{field, signed_value}

-- A pair of halfwords fits where the first under `mask` is `value`, and the second, if the row names it, likewise.
pub record Row : Type 0 where
  pub mask : ℕ
  pub value : ℕ
  pub second : Option (ℕ × ℕ)
  pub means : ℕ → ℕ → Decoded

abbrev pub fits_second : Option (ℕ × ℕ) → ℕ → Bool
fits_second None second = true
fits_second (Some pattern) second = bit_and second pattern.0 == pattern.1

abbrev pub fits_row : Row → ℕ → ℕ → Bool
fits_row row first second = (bit_and first row.mask == row.value) && fits_second row.second second

-- a row of one halfword that is an instruction
abbrev pub narrow : ℕ → ℕ → (ℕ → Instr) → Row
narrow mask value instr =
    record { mask = mask; value = value; second = None; means = λ first second. Is (instr first) 2 }

-- a row of one halfword that is none
abbrev pub refused_row : ℕ → ℕ → Decoded → Row
refused_row mask value answer =
    record { mask = mask; value = value; second = None; means = λ first second. answer }

-- a row of two halfwords that is an instruction
abbrev pub wide : ℕ → ℕ → ℕ → ℕ → (ℕ → ℕ → Instr) → Row
wide mask value mask_2 value_2 instr =
    record { mask = mask; value = value; second = Some (mask_2, value_2); means = λ first second. Is (instr first second) 4 }

-- a row of two halfwords that is none
abbrev pub refused_pair : ℕ → ℕ → ℕ → ℕ → Decoded → Row
refused_pair mask value mask_2 value_2 answer =
    record { mask = mask; value = value; second = Some (mask_2, value_2); means = λ first second. answer }

-- the register number of four bits whose top bit is bit 7
abbrev pub high_register : ℕ → ℕ
high_register h = field h 7 1 * 8 + field h 0 3

-- the amount of a shift to the right, where 0 stands for 32
abbrev pub right_amount : ℕ → ℕ
right_amount h = if field h 6 5 == 0 then 32 else field h 6 5

-- S:I1:I2:imm10:imm11:0 as a signed number, where I1 is NOT(J1 EOR S) and I2 is NOT(J2 EOR S)
abbrev pub bl_offset : ℕ → ℕ → ℤ
bl_offset first second =
    let s = field first 10 1 in
    let i1 = (if field second 13 1 == s then 1 else 0) in
    let i2 = (if field second 11 1 == s then 1 else 0) in
    signed_value 25
    (s * 2 ^ 24 + i1 * 2 ^ 23 + i2 * 2 ^ 22 + field first 0 10 * 2 ^ 12 + field second 0 11 * 2)

-- The rows of the table. Those that are no instruction go first.
abbrev pub rows : List Row
rows =
    -- UNPREDICTABLE: ADD (register) of pc and pc
    refused_row 0xffff 0x44ff Unpredictable
    -- CMP (register), encoding T2, of two low registers, or with pc on either side
    ∷ refused_row 0xffc0 0x4500 Unpredictable
    ∷ refused_row 0xff87 0x4587 Unpredictable
    ∷ refused_row 0xff78 0x4578 Unpredictable
    -- BX, BLX (register) to pc, or with one of the low three bits set
    ∷ refused_row 0xff78 0x4778 Unpredictable
    ∷ refused_row 0xff01 0x4701 Unpredictable
    ∷ refused_row 0xff02 0x4702 Unpredictable
    ∷ refused_row 0xff04 0x4704 Unpredictable
    -- PUSH, POP, and STM or LDM, of no register
    ∷ refused_row 0xffff 0xb400 Unpredictable
    ∷ refused_row 0xffff 0xbc00 Unpredictable
    ∷ refused_row 0xf0ff 0xc000 Unpredictable
    -- STM with its base n in the list and a lower register k beside it, for each k below n:
    -- the masks name the bits 10 to 8 (n), n and k
    ∷ refused_row 0xff03 0xc103 Unpredictable
    ∷ refused_row 0xff05 0xc205 Unpredictable
    ∷ refused_row 0xff06 0xc206 Unpredictable
    ∷ refused_row 0xff09 0xc309 Unpredictable
    ∷ refused_row 0xff0a 0xc30a Unpredictable
    ∷ refused_row 0xff0c 0xc30c Unpredictable
    ∷ refused_row 0xff11 0xc411 Unpredictable
    ∷ refused_row 0xff12 0xc412 Unpredictable
    ∷ refused_row 0xff14 0xc414 Unpredictable
    ∷ refused_row 0xff18 0xc418 Unpredictable
    ∷ refused_row 0xff21 0xc521 Unpredictable
    ∷ refused_row 0xff22 0xc522 Unpredictable
    ∷ refused_row 0xff24 0xc524 Unpredictable
    ∷ refused_row 0xff28 0xc528 Unpredictable
    ∷ refused_row 0xff30 0xc530 Unpredictable
    ∷ refused_row 0xff41 0xc641 Unpredictable
    ∷ refused_row 0xff42 0xc642 Unpredictable
    ∷ refused_row 0xff44 0xc644 Unpredictable
    ∷ refused_row 0xff48 0xc648 Unpredictable
    ∷ refused_row 0xff50 0xc650 Unpredictable
    ∷ refused_row 0xff60 0xc660 Unpredictable
    ∷ refused_row 0xff81 0xc781 Unpredictable
    ∷ refused_row 0xff82 0xc782 Unpredictable
    ∷ refused_row 0xff84 0xc784 Unpredictable
    ∷ refused_row 0xff88 0xc788 Unpredictable
    ∷ refused_row 0xff90 0xc790 Unpredictable
    ∷ refused_row 0xffa0 0xc7a0 Unpredictable
    ∷ refused_row 0xffc0 0xc7c0 Unpredictable
    -- NotInProfile: CPS, BKPT, MSR (register), MRS
    ∷ refused_row 0xffe0 0xb660 NotInProfile
    ∷ refused_row 0xff00 0xbe00 NotInProfile
    ∷ refused_pair 0xfff0 0xf380 0xff00 0x8800 NotInProfile
    ∷ refused_pair 0xffff 0xf3ef 0xf000 0x8000 NotInProfile
    -- LSL, LSR, ASR (immediate); LSL by 0 is MOV (register) with flags
    ∷ narrow 0xf800 0x0000 (λ h. ShiftImm 0 (field h 0 3) (field h 3 3) (field h 6 5))
    ∷ narrow 0xf800 0x0800 (λ h. ShiftImm 1 (field h 0 3) (field h 3 3) (right_amount h))
    ∷ narrow 0xf800 0x1000 (λ h. ShiftImm 2 (field h 0 3) (field h 3 3) (right_amount h))
    -- ADD, SUB (register); ADD, SUB (immediate), encoding T1
    ∷ narrow 0xfc00 0x1800 (λ h. AddSubReg (field h 9 1 == 1) (field h 0 3) (field h 3 3) (field h 6 3))
    ∷ narrow 0xfc00 0x1c00 (λ h. AddSubImm3 (field h 9 1 == 1) (field h 0 3) (field h 3 3) (field h 6 3))
    -- MOV, CMP, ADD, SUB (immediate) with eight bits
    ∷ narrow 0xe000 0x2000 (λ h. Imm8 (field h 11 2) (field h 8 3) (field h 0 8))
    -- data processing of two low registers
    ∷ narrow 0xfc00 0x4000 (λ h. Alu (field h 6 4) (field h 0 3) (field h 3 3))
    -- ADD, CMP, MOV (register) of any registers; BX; BLX (register)
    ∷ narrow 0xff00 0x4400 (λ h. AddHigh (high_register h) (field h 3 4))
    ∷ narrow 0xff00 0x4500 (λ h. CmpHigh (high_register h) (field h 3 4))
    ∷ narrow 0xff00 0x4600 (λ h. MovHigh (high_register h) (field h 3 4))
    ∷ narrow 0xff87 0x4700 (λ h. Bx (field h 3 4))
    ∷ narrow 0xff87 0x4780 (λ h. Blx (field h 3 4))
    -- LDR (literal)
    ∷ narrow 0xf800 0x4800 (λ h. LdrLit (field h 8 3) (pos (field h 0 8 * 4)))
    -- STR, STRH, STRB, LDRSB, LDR, LDRH, LDRB, LDRSH (register)
    ∷ narrow 0xf000 0x5000 (λ h. MemReg (field h 9 3) (field h 0 3) (field h 3 3) (field h 6 3))
    -- STR, LDR (immediate), STRB, LDRB (immediate), STRH, LDRH (immediate)
    ∷ narrow 0xf000 0x6000 (λ h. MemImm (field h 11 1) (field h 0 3) (field h 3 3) (pos (field h 6 5 * 4)))
    ∷ narrow 0xf000 0x7000 (λ h. MemImm (2 + field h 11 1) (field h 0 3) (field h 3 3) (pos (field h 6 5)))
    ∷ narrow 0xf000 0x8000 (λ h. MemImm (4 + field h 11 1) (field h 0 3) (field h 3 3) (pos (field h 6 5 * 2)))
    -- STR, LDR (immediate), encoding T2, relative to sp
    ∷ narrow 0xf000 0x9000 (λ h. MemSp (field h 11 1 == 1) (field h 8 3) (pos (field h 0 8 * 4)))
    -- ADR; ADD (SP plus immediate), encodings T1 and T2; SUB (SP minus immediate)
    ∷ narrow 0xf800 0xa000 (λ h. Adr (field h 8 3) (pos (field h 0 8 * 4)))
    ∷ narrow 0xf800 0xa800 (λ h. AddRdSp (field h 8 3) (pos (field h 0 8 * 4)))
    ∷ narrow 0xff80 0xb000 (λ h. AddSp (pos (field h 0 7 * 4)))
    ∷ narrow 0xff80 0xb080 (λ h. SubSp (pos (field h 0 7 * 4)))
    -- SXTH, SXTB, UXTH, UXTB; REV, REV16; REVSH
    ∷ narrow 0xff00 0xb200 (λ h. Extend (field h 6 2) (field h 0 3) (field h 3 3))
    ∷ narrow 0xff80 0xba00 (λ h. Rev (field h 6 2) (field h 0 3) (field h 3 3))
    ∷ narrow 0xffc0 0xbac0 (λ h. Rev 3 (field h 0 3) (field h 3 3))
    -- PUSH, where bit 8 of the halfword stands for lr; POP, where it stands for pc
    ∷ narrow 0xfe00 0xb400 (λ h. Push (field h 0 8 + field h 8 1 * 2 ^ 14))
    ∷ narrow 0xfe00 0xbc00 (λ h. Pop (field h 0 8 + field h 8 1 * 2 ^ 15))
    -- NOP, YIELD, WFE, WFI, SEV and the hints that do nothing
    ∷ narrow 0xff0f 0xbf00 (λ h. Hint (field h 4 4))
    -- STM; LDM
    ∷ narrow 0xf800 0xc000 (λ h. Stm (field h 8 3) (field h 0 8))
    ∷ narrow 0xf800 0xc800 (λ h. Ldm (field h 8 3) (field h 0 8))
    -- B, encoding T1, with the conditions 0 to 7, 8 to 11, 12 and 13; SVC
    ∷ narrow 0xf800 0xd000 (λ h. BCond (field h 8 4) (signed_value 9 (field h 0 8 * 2)))
    ∷ narrow 0xfc00 0xd800 (λ h. BCond (field h 8 4) (signed_value 9 (field h 0 8 * 2)))
    ∷ narrow 0xfe00 0xdc00 (λ h. BCond (field h 8 4) (signed_value 9 (field h 0 8 * 2)))
    ∷ narrow 0xff00 0xdf00 (λ h. Svc (field h 0 8))
    -- B, encoding T2
    ∷ narrow 0xf800 0xe000 (λ h. B (signed_value 12 (field h 0 11 * 2)))
    -- BL
    ∷ wide 0xf800 0xf000 0xd000 0xd000 (λ first second. Bl (bl_offset first second))
    -- DSB; DMB; ISB
    ∷ wide 0xffff 0xf3bf 0xfff0 0x8f40 (λ first second. Barrier 0 (field second 0 4))
    ∷ wide 0xffff 0xf3bf 0xfff0 0x8f50 (λ first second. Barrier 1 (field second 0 4))
    ∷ wide 0xffff 0xf3bf 0xfff0 0x8f60 (λ first second. Barrier 2 (field second 0 4))
    ∷ []

-- CBZ, CBNZ: i:imm5:0
abbrev pub cbz_offset : ℕ → ℕ
cbz_offset h = field h 9 1 * 2 ^ 6 + field h 3 5 * 2

-- MOVW, MOVT: the register, and imm4:i:imm3:imm8
abbrev pub wide_d : ℕ → ℕ
wide_d second = field second 8 4

abbrev pub wide_imm : ℕ → ℕ → ℕ
wide_imm first second = field first 0 4 * 2 ^ 12 + field first 10 1 * 2 ^ 11 + field second 12 3 * 2 ^ 8 + field second 0 8

-- The rows that the second profile has besides (Armv8-M Architecture Reference Manual, DDI 0553). Those that are no instruction go first.
abbrev pub late_rows : List Row
late_rows =
    -- UNPREDICTABLE: MOVW, MOVT into sp or pc
    refused_pair 0xfbf0 0xf240 0x8f00 0x0d00 Unpredictable
    ∷ refused_pair 0xfbf0 0xf240 0x8f00 0x0f00 Unpredictable
    ∷ refused_pair 0xfbf0 0xf2c0 0x8f00 0x0d00 Unpredictable
    ∷ refused_pair 0xfbf0 0xf2c0 0x8f00 0x0f00 Unpredictable
    -- SDIV, UDIV with sp or pc: as n, as d, as m
    ∷ refused_pair 0xffdf 0xfb9d 0xf0f0 0xf0f0 Unpredictable
    ∷ refused_pair 0xffdf 0xfb9f 0xf0f0 0xf0f0 Unpredictable
    ∷ refused_pair 0xffd0 0xfb90 0xfff0 0xfdf0 Unpredictable
    ∷ refused_pair 0xffd0 0xfb90 0xfff0 0xfff0 Unpredictable
    ∷ refused_pair 0xffd0 0xfb90 0xf0ff 0xf0fd Unpredictable
    ∷ refused_pair 0xffd0 0xfb90 0xf0ff 0xf0ff Unpredictable
    -- CBZ, CBNZ
    ∷ narrow 0xf500 0xb100 (λ h. Cbz (field h 11 1 == 1) (field h 0 3) (pos (cbz_offset h)))
    -- B, encoding T4
    ∷ wide 0xf800 0xf000 0xd000 0x9000 (λ first second. BWide (bl_offset first second))
    -- MOV (immediate), encoding T3; MOVT
    ∷ wide 0xfbf0 0xf240 0x8000 0x0000 (λ first second. MovW (wide_d second) (wide_imm first second))
    ∷ wide 0xfbf0 0xf2c0 0x8000 0x0000 (λ first second. MovT (wide_d second) (wide_imm first second))
    -- SDIV; UDIV
    ∷ wide 0xfff0 0xfb90 0xf0f0 0xf0f0 (λ first second. Div true (field second 8 4) (field first 0 4) (field second 0 4))
    ∷ wide 0xfff0 0xfbb0 0xf0f0 0xf0f0 (λ first second. Div false (field second 8 4) (field first 0 4) (field second 0 4))
    ∷ []

-- the meaning of the first row that fits
abbrev pub first_fit : List Row → ℕ → ℕ → Decoded
first_fit [] first second = Undefined
first_fit (row ∷ more) first second =
    let later = first_fit more first second in
    if fits_row row first second then row.means first second else later

-- in the first profile
unfoldable pub decode_result : ℕ → ℕ → Decoded
decode_result first second = first_fit rows first second

-- in the second, whose rows are these and those of the first
unfoldable pub late_decode_result : ℕ → ℕ → Decoded
late_decode_result first second = first_fit (late_rows ++ rows) first second

abbrev pub decode_result_for : Profile → ℕ → ℕ → Decoded
decode_result_for One first second = decode_result first second
decode_result_for Two first second = late_decode_result first second
