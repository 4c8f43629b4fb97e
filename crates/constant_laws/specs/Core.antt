-- The core's own numbers: the meanings of instruction fields (DDI 0419; docs/rules/instructions.md, docs/rules/instructions.md).
use Rattle.std.specs.Prelude.{◌≡◌}
use Rattle.thumb_core.specs.declared.regs.TheConstants as thumb_core-regs
use Rattle.thumb_core.specs.declared.alu.TheConstants as thumb_core-alu
use Rattle.thumb_core.specs.declared.shift.TheConstants as thumb_core-shift
use Rattle.thumb_core.specs.declared.data.TheConstants as thumb_core-data
use Rattle.thumb_core.specs.declared.access.TheConstants as thumb_core-access
use Rattle.thumb_core.specs.declared.branch.TheConstants as thumb_core-branch

-- the numbers that the definitions of thumb_core cite
pub record CoreNumbers : Type 0 where
  pub sp : thumb_core-regs.SP ≡ 13
  pub lr : thumb_core-regs.LR ≡ 14
  pub pc : thumb_core-regs.PC ≡ 15
  pub and : thumb_core-alu.AND ≡ 0
  pub eor : thumb_core-alu.EOR ≡ 1
  pub alu-lsl : thumb_core-alu.LSL ≡ 2
  pub alu-lsr : thumb_core-alu.LSR ≡ 3
  pub alu-asr : thumb_core-alu.ASR ≡ 4
  pub adc : thumb_core-alu.ADC ≡ 5
  pub sbc : thumb_core-alu.SBC ≡ 6
  pub ror : thumb_core-alu.ROR ≡ 7
  pub tst : thumb_core-alu.TST ≡ 8
  pub rsb : thumb_core-alu.RSB ≡ 9
  pub alu-cmp : thumb_core-alu.CMP ≡ 10
  pub cmn : thumb_core-alu.CMN ≡ 11
  pub orr : thumb_core-alu.ORR ≡ 12
  pub mul : thumb_core-alu.MUL ≡ 13
  pub bic : thumb_core-alu.BIC ≡ 14
  pub mvn : thumb_core-alu.MVN ≡ 15
  pub shift-lsl : thumb_core-shift.LSL ≡ 0
  pub shift-lsr : thumb_core-shift.LSR ≡ 1
  pub shift-asr : thumb_core-shift.ASR ≡ 2
  pub mov : thumb_core-data.MOV ≡ 0
  pub data-cmp : thumb_core-data.CMP ≡ 1
  pub add : thumb_core-data.ADD ≡ 2
  pub sub : thumb_core-data.SUB ≡ 3
  pub sxth : thumb_core-data.SXTH ≡ 0
  pub sxtb : thumb_core-data.SXTB ≡ 1
  pub uxth : thumb_core-data.UXTH ≡ 2
  pub uxtb : thumb_core-data.UXTB ≡ 3
  pub rev : thumb_core-data.REV ≡ 0
  pub rev16 : thumb_core-data.REV16 ≡ 1
  pub revsh : thumb_core-data.REVSH ≡ 3
  pub str_reg : thumb_core-access.STR_REG ≡ 0
  pub strh_reg : thumb_core-access.STRH_REG ≡ 1
  pub strb_reg : thumb_core-access.STRB_REG ≡ 2
  pub ldrsb_reg : thumb_core-access.LDRSB_REG ≡ 3
  pub ldr_reg : thumb_core-access.LDR_REG ≡ 4
  pub ldrh_reg : thumb_core-access.LDRH_REG ≡ 5
  pub ldrb_reg : thumb_core-access.LDRB_REG ≡ 6
  pub ldrsh_reg : thumb_core-access.LDRSH_REG ≡ 7
  pub str_imm : thumb_core-access.STR_IMM ≡ 0
  pub ldr_imm : thumb_core-access.LDR_IMM ≡ 1
  pub strb_imm : thumb_core-access.STRB_IMM ≡ 2
  pub ldrb_imm : thumb_core-access.LDRB_IMM ≡ 3
  pub strh_imm : thumb_core-access.STRH_IMM ≡ 4
  pub ldrh_imm : thumb_core-access.LDRH_IMM ≡ 5
  pub eq : thumb_core-branch.EQ ≡ 0
  pub ne : thumb_core-branch.NE ≡ 1
  pub cs : thumb_core-branch.CS ≡ 2
  pub cc : thumb_core-branch.CC ≡ 3
  pub mi : thumb_core-branch.MI ≡ 4
  pub pl : thumb_core-branch.PL ≡ 5
  pub vs : thumb_core-branch.VS ≡ 6
  pub vc : thumb_core-branch.VC ≡ 7
  pub hi : thumb_core-branch.HI ≡ 8
  pub ls : thumb_core-branch.LS ≡ 9
  pub ge : thumb_core-branch.GE ≡ 10
  pub lt : thumb_core-branch.LT ≡ 11
  pub gt : thumb_core-branch.GT ≡ 12
  pub le : thumb_core-branch.LE ≡ 13
