-- Sources, objects and unwind directives (docs/rules/sources.md, docs/rules/sources.md, docs/rules/sources.md).
use Rattle.std.specs.Prelude.{◌≡◌}
use Rattle.asm_read.specs.declared.line.TheConstants as asm_read-line
use Rattle.asm_read.specs.declared.plan.TheConstants as asm_read-plan
use Rattle.asm_read.specs.declared.read.TheConstants as asm_read-read
use Rattle.asm_read.specs.declared.token.TheConstants as asm_read-token
use Rattle.asm_unwind.specs.declared.directive.TheConstants as asm_unwind-directive
use Rattle.asm_unwind.specs.declared.code.TheConstants as asm_unwind-code
use Rattle.asm_unwind.specs.declared.entry.TheConstants as asm_unwind-entry
use Rattle.asm_layout.specs.declared.given.TheConstants as asm_layout-given
use Rattle.asm_layout.specs.declared.walk.TheConstants as asm_layout-walk
use Rattle.asm_relocatable.specs.declared.relocation.TheConstants as asm_object-relocation
use Rattle.asm_object.specs.declared.refusal.TheConstants as asm_object-refusal
use Rattle.asm_object.specs.declared.bytes.TheConstants as asm_object-bytes

-- the numbers that the definitions of asm_read cite
pub record ReaderNumbers : Type 0 where
  pub sp : asm_read-line.SP ≡ 13
  pub lr : asm_read-line.LR ≡ 14
  pub pc : asm_read-line.PC ≡ 15
  pub longest : asm_read-plan.LONGEST ≡ 256
  pub most_lines : asm_read-read.MOST_LINES ≡ 200000
  pub many : asm_read-token.MANY ≡ 0x200000000
  pub greatest : asm_read-token.GREATEST ≡ 0xFFFFFFFF
  pub farthest_below : asm_read-token.FARTHEST_BELOW ≡ 0x80000000

-- the numbers that the definitions of asm_unwind cite
pub record DirectiveNumbers : Type 0 where
  pub most_pad : asm_unwind-directive.MOST_PAD ≡ 65536
  pub most_frame_offset : asm_unwind-directive.MOST_FRAME_OFFSET ≡ 1020
  pub most_step : asm_unwind-code.MOST_STEP ≡ 0x100
  pub words_of_most_step : asm_unwind-code.WORDS_OF_MOST_STEP ≡ 0x3F
  pub short_room : asm_unwind-entry.SHORT_ROOM ≡ 3
  pub long_room : asm_unwind-entry.LONG_ROOM ≡ 1022

-- the numbers that the definitions of asm_layout cite
pub record LayoutNumbers : Type 0 where
  pub byte_limit : asm_layout-given.BYTE_LIMIT ≡ 0x80
  pub half_limit : asm_layout-given.HALF_LIMIT ≡ 0x8000
  pub most_bytes : asm_layout-walk.MOST_BYTES ≡ 1048576

-- the numbers that the definitions of asm_object cite
pub record ObjectNumbers : Type 0 where
  pub r_arm_abs32 : asm_object-relocation.R_ARM_ABS32 ≡ 2
  pub r_arm_rel32 : asm_object-relocation.R_ARM_REL32 ≡ 3
  pub r_arm_thm_call : asm_object-relocation.R_ARM_THM_CALL ≡ 10
  pub r_arm_target1 : asm_object-relocation.R_ARM_TARGET1 ≡ 38
  pub r_arm_target2 : asm_object-relocation.R_ARM_TARGET2 ≡ 41
  pub r_arm_prel31 : asm_object-relocation.R_ARM_PREL31 ≡ 42
  pub r_arm_thm_jump11 : asm_object-relocation.R_ARM_THM_JUMP11 ≡ 102
  pub r_arm_thm_jump8 : asm_object-relocation.R_ARM_THM_JUMP8 ≡ 103
  pub most_to_pool : asm_object-refusal.MOST_TO_POOL ≡ 1020
  pub filler : asm_object-bytes.FILLER ≡ 0x46C0
