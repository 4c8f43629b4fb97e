-- The unwinding bytecode of directives (IHI 0038, "Frame unwinding instructions").
use Rattle.std.specs.Prelude.{◌≡◌, ℕ, ◌*◌, ◌<◌, ◌≤◌, ◌+◌, ◌-◌, ◌/◌, ◌%◌, ◌^◌, ◌==◌, not, Bool, true, false, nat_lt, nat_le, if◌then◌else◌, List, [], ◌∷◌, ◌++◌, replicate, reverse, filter, take_while, drop, length, position, flat_map, Option, Some, None}
use Rattle.asm_unwind.specs.declared.directive.UnwindDirective.{UnwindDirective}
use Rattle.asm_unwind.specs.declared.directive.UnwindDirective.TheVariants.{Save, Pad, SetFp}
use Rattle.asm_unwind.specs.declared.directive.TheConstants.{MOST_PAD}
use Rattle.asm_unwind.specs.declared.code.TheConstants.{MOST_STEP, WORDS_OF_MOST_STEP}
use Rattle.eh_codes.specs.declared.code.UnwindCode.{UnwindCode}
use Rattle.eh_codes.specs.declared.code.UnwindCode.TheVariants.{Raise, Lower, PopMask, Restore, PopRange, PopRangeAndLr, PopLow, RaiseLong}
use Rattle.eh_codes.specs.declared.code.TheConstants.{LONG_LEAST}
use Rattle.eh_codes.specs.Bytes.{code_bytes}
use Rattle.std.specs.Int.{bit_at}
use Rattle.asm_unwind.specs.Refusals.{is_frame_pointer}

-- the masks of r4 to r4+n, for n from 0 to 7; bit 0 is r4
abbrev pub ranges : List ℕ
ranges = 0x01 ∷ 0x03 ∷ 0x07 ∷ 0x0F ∷ 0x1F ∷ 0x3F ∷ 0x7F ∷ 0xFF ∷ []

-- the n for which a mask is r4 to r4+n
abbrev pub range_of : ℕ → Option ℕ
range_of mask = position (λ range. range == mask) ranges

abbrev pub mask_code : ℕ → Option ℕ → Option ℕ → UnwindCode
mask_code mask (Some last) _ = PopRange last
mask_code mask None (Some last) = PopRangeAndLr last
mask_code mask None None = PopMask mask

-- the code for a mask of r4 to lr: a range from r4 on, such a range with lr (bit 10), or any other list
unfoldable pub high_code : ℕ → UnwindCode
high_code mask =
    mask_code mask (range_of mask) (if nat_lt mask 0x400 then None else range_of (mask - 0x400))

-- the codes of a register list: r0 to r3, then r4 to lr
abbrev pub save_codes : ℕ → List UnwindCode
save_codes registers =
    (if registers % 16 == 0 then [] else PopLow (registers % 16) ∷ [])
    ++ (if registers / 16 == 0 then [] else high_code (registers / 16) ∷ [])

-- the instructions that add a number of bytes to the stack pointer: one step, two steps, or a long one
abbrev pub pad_codes : ℕ → List UnwindCode
pad_codes size =
    if nat_le size MOST_STEP then Raise ((size - 4) / 4) ∷ []
    else (if nat_le size (2 * MOST_STEP) then Raise WORDS_OF_MOST_STEP ∷ Raise ((size - (MOST_STEP + 4)) / 4) ∷ []
    else RaiseLong ((size - LONG_LEAST) / 4) ∷ [])

-- the instructions that subtract a number of bytes: as many of the greatest step as fit, then the rest
abbrev pub lower_codes : ℕ → List UnwindCode
lower_codes size =
    if size == 0 then []
    else replicate ((size - 4) / MOST_STEP) (Lower WORDS_OF_MOST_STEP) ++ Lower ((size - 4) % MOST_STEP / 4) ∷ []

-- the codes that undo a directive
abbrev pub directive_codes : UnwindDirective → List UnwindCode
directive_codes (Save registers) = save_codes registers
directive_codes (Pad size) = pad_codes size
directive_codes (SetFp register offset) = Restore register ∷ lower_codes offset
directive_codes _ = []

-- the directive's numbers are within their limits: a list has no register above lr and not the stack pointer, and a frame pointer
-- is none above r11
abbrev pub IsWritable : UnwindDirective → Type 0
IsWritable (Save registers) = (registers < 2 ^ 15) × (bit_at registers 13 ≡ 0)
IsWritable (Pad size) = size ≤ MOST_PAD
IsWritable (SetFp register _) = register ≤ 11
IsWritable _ = Unit {0}

abbrev pub is_no_pad : UnwindDirective → Bool
is_no_pad (Pad _) = false
is_no_pad _ = true

-- the directives in front of the first `.setfp`, and those from it on
abbrev pub before_frame_pointer : List UnwindDirective → List UnwindDirective
before_frame_pointer directives = take_while (λ d. not (is_frame_pointer d)) directives

abbrev pub from_frame_pointer : List UnwindDirective → List UnwindDirective
from_frame_pointer directives = drop (length (before_frame_pointer directives)) directives

-- directives with their pads, or without
abbrev pub with_pads_if : Bool → List UnwindDirective → List UnwindDirective
with_pads_if pads directives = if pads then directives else filter is_no_pad directives

-- the directives that have bytecode: pads after a frame pointer need none
abbrev pub coded_directives : List UnwindDirective → List UnwindDirective
coded_directives directives = before_frame_pointer directives ++ with_pads_if false (from_frame_pointer directives)

-- the codes of directives, in reverse order of the text
abbrev pub reversed_codes : List UnwindDirective → List UnwindCode
reversed_codes directives = flat_map directive_codes (reverse directives)

-- the bytes of directives, in reverse order of the text
unfoldable pub reversed_bytes : List UnwindDirective → List ℕ
reversed_bytes directives = flat_map code_bytes (reversed_codes directives)

-- the codes of a function
unfoldable pub codes_of : List UnwindDirective → List UnwindCode
codes_of directives = reversed_codes (coded_directives directives)

-- the bytecode of a function
unfoldable pub bytecode_of : List UnwindDirective → List ℕ
bytecode_of directives = flat_map code_bytes (codes_of directives)
