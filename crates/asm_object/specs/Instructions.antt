-- The instruction of a statement (Armv6-M Architecture Reference Manual, DDI 0419; Armv8-M, DDI 0553).
use Rattle.std.specs.Prelude.{ℕ, ◌*◌, ◌/◌, ℤ, pos, negsuc, ◌-ℤ◌, if◌then◌else◌, List, Option, Some, None, Result}
use Rattle.asm_statements.specs.declared.statement.StmtKind.{StmtKind}
use Rattle.thumb_isa.specs.declared.instr.Instr.{Instr}
use Rattle.thumb_isa.specs.declared.instr.Instr.TheVariants.{LdrLit, Adr, BCond, B, Bl, BWide, Cbz}
use Rattle.asm_relocatable.specs.declared.place.Section.TheVariants.{Text}
use Rattle.asm_relocatable.specs.declared.place.Place.{Place}
use Rattle.asm_layout.specs.Sizes.{sum_64}
use Rattle.asm_statements.specs.Computations.{offset}
use Rattle.asm_layout.specs.Sorts.{Operation, Nameless, Undefined, AdrOf, LdrOf, LdrValue, BTo, BCondTo, BlTo, BWideTo, CbzTo, operation}
use Rattle.asm_relocatable.specs.Sections.{same_section}
use Rattle.asm_layout.specs.Labels.{NamePlace, find}
use Rattle.asm_relocatable.specs.declared.relocation.TheConstants.{R_ARM_THM_CALL, R_ARM_THM_JUMP11, R_ARM_THM_JUMP8}
use Rattle.asm_object.specs.declared.value.Link.{Link}
use Rattle.asm_object.specs.Values.{relocation_link}
use Rattle.thumb_encode.specs.declared.code.Code.{Code}
use Rattle.thumb_isa.specs.declared.encode_fault.EncodeFault.{EncodeFault}
use Rattle.thumb_encode.specs.Codes.{encode_result}

-- where an instruction finds its pc
abbrev pub pc : ℕ → ℕ
pc place = sum_64 place 4

-- the pc rounded down to a multiple of 4
abbrev pub base : ℕ → ℕ
base place = pc place / 4 * 4

-- the difference of two places, as an offset of an instruction
abbrev pub place_difference : ℕ → ℕ → ℤ
place_difference to from = offset (pos to -ℤ pos from)

abbrev pub in_text : Option Place → Option ℕ
in_text (Some place) = if same_section place.section Text then Some place.offset else None
in_text None = None

-- the place of a label in the text
abbrev pub text_place : List NamePlace → List ℕ → Option ℕ
text_place labels name = in_text (find name labels)

abbrev pub branch_to : Option ℕ → ℕ → ℤ
branch_to (Some to) place = place_difference to (pc place)
branch_to None place = negsuc 3

-- the offset of a branch: to a label of the text, or else -4. The linker replaces -4, or the source is refused (`b.w`,
-- `cbz`, `cbnz`)
abbrev pub branch : List NamePlace → List ℕ → ℕ → ℤ
branch labels name place = branch_to (text_place labels name) place

abbrev pub literal : ℕ → ℕ → ℤ
literal to place = place_difference to (base place)

abbrev pub literal_to : Option ℕ → ℕ → ℤ
literal_to (Some to) place = literal to place
literal_to None place = pos 0

abbrev pub label_literal : List NamePlace → List ℕ → ℕ → ℤ
label_literal labels name place = literal_to (text_place labels name) place

-- the instruction of an operation at a place, given the place of its pool word, if it has one; None for `udf`
abbrev pub operation_instr : List NamePlace → Option Operation → ℕ → Option ℕ → Option Instr
operation_instr labels None place word = None
operation_instr labels (Some (Nameless i)) place word = Some i
operation_instr labels (Some (Undefined _)) place word = None
operation_instr labels (Some (AdrOf d name)) place word = Some (Adr d (label_literal labels name place))
operation_instr labels (Some (LdrOf t name)) place word = Some (LdrLit t (label_literal labels name place))
operation_instr labels (Some (LdrValue t _)) place word = Some (LdrLit t (literal_to word place))
operation_instr labels (Some (BTo name)) place word = Some (B (branch labels name place))
operation_instr labels (Some (BCondTo cond name)) place word = Some (BCond cond (branch labels name place))
operation_instr labels (Some (BlTo name)) place word = Some (Bl (branch labels name place))
operation_instr labels (Some (BWideTo name)) place word = Some (BWide (branch labels name place))
operation_instr labels (Some (CbzTo nonzero n name)) place word = Some (Cbz nonzero n (branch labels name place))

abbrev pub instruction : List NamePlace → StmtKind → ℕ → Option ℕ → Option Instr
instruction labels kind place word = operation_instr labels (operation kind) place word

-- the result of the encoder for an instruction, if there is one
abbrev pub encode_option : Option Instr → Option (Result Code EncodeFault)
encode_option None = None
encode_option (Some i) = Some (encode_result i)

abbrev pub linked_unless : Option ℕ → ℕ → List ℕ → Option Link
linked_unless (Some _) kind name = None
linked_unless None kind name = relocation_link kind name (negsuc 3)

-- the relocation of a branch (IHI 0044), if it needs one
abbrev pub operation_link : List NamePlace → Option Operation → Option Link
operation_link labels None = None
operation_link labels (Some (Nameless _)) = None
operation_link labels (Some (Undefined _)) = None
operation_link labels (Some (AdrOf _ _)) = None
operation_link labels (Some (LdrOf _ _)) = None
operation_link labels (Some (LdrValue _ _)) = None
operation_link labels (Some (BTo name)) = linked_unless (text_place labels name) R_ARM_THM_JUMP11 name
operation_link labels (Some (BCondTo _ name)) = linked_unless (text_place labels name) R_ARM_THM_JUMP8 name
operation_link labels (Some (BlTo name)) = linked_unless (text_place labels name) R_ARM_THM_CALL name
operation_link labels (Some (BWideTo _)) = None
operation_link labels (Some (CbzTo _ _ _)) = None

abbrev pub branch_link : List NamePlace → StmtKind → Option Link
branch_link labels kind = operation_link labels (operation kind)
