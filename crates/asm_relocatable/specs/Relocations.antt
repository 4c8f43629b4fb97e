-- The kinds of relocations by their numbers, and the fields that they fill (IHI 0044, "Relocation types").
use Rattle.std.specs.Prelude.{ℕ, ◌==◌, ◌||◌, if◌then◌else◌, Option, Some, None}
use Rattle.std.specs.Option.{option_map_or}
use Rattle.asm_relocatable.specs.declared.object.Reloc.{Reloc}
use Rattle.asm_relocatable.specs.declared.relocation.FieldKind.{FieldKind}
use Rattle.asm_relocatable.specs.declared.relocation.FieldKind.TheVariants.{Absolute, Relative, Prel31, Call, Jump, CondJump}
use Rattle.asm_relocatable.specs.declared.relocation.TheConstants.{R_ARM_ABS32, R_ARM_REL32, R_ARM_THM_CALL, R_ARM_TARGET1, R_ARM_TARGET2, R_ARM_PREL31, R_ARM_THM_JUMP11, R_ARM_THM_JUMP8}

-- the field of a relocation by its number; None if the relocation changes nothing
abbrev pub kind_of : ℕ → Option FieldKind
kind_of number =
    if number == R_ARM_ABS32 || number == R_ARM_TARGET1 then Some Absolute
    else (if number == R_ARM_REL32 || number == R_ARM_TARGET2 then Some Relative
    else (if number == R_ARM_PREL31 then Some Prel31
    else (if number == R_ARM_THM_CALL then Some Call
    else (if number == R_ARM_THM_JUMP11 then Some Jump
    else (if number == R_ARM_THM_JUMP8 then Some CondJump else None)))))

-- how many bytes a field has
abbrev pub width : FieldKind → ℕ
width Absolute = 4
width Relative = 4
width Prel31 = 4
width Call = 4
width Jump = 2
width CondJump = 2

-- the width of a relocation's field in bytes; 0 if the relocation changes nothing
abbrev pub field_size : Reloc → ℕ
field_size reloc = option_map_or width (kind_of reloc.kind) 0
