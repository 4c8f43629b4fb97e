-- What is at an address of an image: a halfword, and the instruction that begins with it (DDI 0419).
use Rattle.std.specs.Prelude.{ℕ, ◌+◌, ◌-◌, ◌*◌, ◌/◌, ◌==◌, nat_le, Bool, true, false, if◌then◌else◌, Option, Some, None, slice_index, option_and_then}
use Rattle.elf_image.specs.Segments.{Segment, segment_end}
use Rattle.elf_image.specs.Functions.{segment_at}
use Rattle.elf_image.specs.Image.{Image}
use Rattle.thumb_isa.specs.declared.instr.Decoded.{Decoded}
use Rattle.thumb_isa.specs.declared.instr.Decoded.TheVariants.{Is, Undefined, Unpredictable, NotInProfile}
use Rattle.thumb_isa.specs.declared.instr.Instr.{Instr}
use Rattle.thumb_isa.specs.declared.profile.Profile.{Profile}
use Rattle.thumb_isa.specs.Rows.{decode_result_for}
use Rattle.thumb_isa.specs.Range.{size_of}
use Rattle.frame_code.specs.declared.standing.Standing.{Standing}
use Rattle.frame_code.specs.declared.standing.Standing.TheVariants.{Instruction, Udf, Nothing}
use Rattle.frame_code.specs.declared.standing.TheConstants.{UDF}

-- the halfword at an address of a segment that contains both its bytes; 0 past the file bytes
abbrev pub halfword_in : ℕ → Segment → Option ℕ
halfword_in a s =
    if nat_le (a + 2) (segment_end s) then Some (slice_index s.bytes (a - s.start) + 256 * slice_index s.bytes (a - s.start + 1)) else None

-- the halfword at an address of an image
abbrev pub halfword_at : Image → ℕ → Option ℕ
halfword_at image a = option_and_then (halfword_in a) (segment_at image.segments a)

-- UDF, which is undefined permanently: its top byte is 11011110
abbrev pub is_udf : ℕ → Bool
is_udf first = first / 256 == UDF

abbrev pub standing_of_decoded : Decoded → Standing
standing_of_decoded (Is i size) = Instruction i size
standing_of_decoded Undefined = Nothing
standing_of_decoded Unpredictable = Nothing
standing_of_decoded NotInProfile = Nothing

-- an instruction of two halfwords, both of them code of the function
abbrev pub wide_of : Profile → ℕ → Option ℕ → Standing
wide_of p first None = Nothing
wide_of p first (Some second) = standing_of_decoded (decode_result_for p first second)

-- the first halfword tells whether an instruction has one or two; the second one is at the next place
abbrev pub standing_by : Profile → Option ℕ → Option ℕ → Standing
standing_by p None second = Nothing
standing_by p (Some first) second =
    if is_udf first then Udf
    else (if size_of first == 2 then standing_of_decoded (decode_result_for p first 0) else wide_of p first second)

abbrev pub is_nothing : Standing → Bool
is_nothing (Instruction i size) = false
is_nothing Udf = false
is_nothing Nothing = true

abbrev pub instruction_of : Standing → Option Instr
instruction_of (Instruction i size) = Some i
instruction_of Udf = None
instruction_of Nothing = None
