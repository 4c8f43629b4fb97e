-- The table of unwinding instructions (IHI 0038, "Frame unwinding instructions"): a list of rows, searched in order.
use Rattle.std.specs.Prelude.{ℕ, ◌+◌, ◌*◌, ◌%◌, ◌^◌, ◌==◌, bit_and, if◌then◌else◌, List, [], ◌∷◌, Option, Some, None, option_map}
use Rattle.std.specs.Result.{result_ok}
use Rattle.eh_word.specs.Words.{uleb128_front}
use Rattle.eh_codes.specs.declared.code.UnwindCode.{UnwindCode}
use Rattle.eh_codes.specs.declared.code.UnwindCode.TheVariants.{Raise, Lower, Refuse, PopMask, Restore, PopRange, PopRangeAndLr, Finish, PopLow, RaiseLong}
use Rattle.eh_codes.specs.declared.code.TheConstants.{RAISE, LOWER, POP_MASK, RESTORE, POP_RANGE, POP_RANGE_AND_LR, FINISH, POP_LOW, RAISE_LONG}

-- what has to follow the first byte: nothing; a byte that is `value` under `mask`; or a ULEB128 number
pub data Operand : Type 0 where
  Nothing : Operand
  Byte : (mask value : ℕ) → Operand
  Number : Operand

-- A row: a first byte that is `value` under `mask`, and what has to follow it. `means` gives the instruction from the
-- first byte and the byte or number after it; None if the standard reserves the pattern.
pub record Row : Type 0 where
  pub mask : ℕ
  pub value : ℕ
  pub operand : Operand
  pub means : ℕ → ℕ → Option UnwindCode

abbrev pub row : ℕ → ℕ → Operand → (ℕ → ℕ → UnwindCode) → Row
row mask value operand code = record { mask = mask; value = value; operand = operand; means = λ first next. Some (code first next) }

abbrev pub reserved_row : ℕ → ℕ → Operand → Row
reserved_row mask value operand = record { mask = mask; value = value; operand = operand; means = λ first next. None }

-- The rows. If two fit, the first counts. Bytes that fit no row begin no instruction.
abbrev pub rows : List Row
rows =
    -- 00xxxxxx, 01xxxxxx: vsp rises, falls
    row 0xC0 RAISE Nothing (λ first next. Raise (first % 2 ^ 6))
    ∷ row 0xC0 LOWER Nothing (λ first next. Lower (first % 2 ^ 6))
    -- 10000000 00000000: refuse to unwind
    ∷ row 0xFF POP_MASK (Byte 0xFF 0) (λ first next. Refuse)
    -- 1000iiii iiiiiiii: pop r4 to r15 under a mask; the stack pointer, bit 1 of the first byte, isn't popped
    ∷ reserved_row 0xF2 0x82 Nothing
    ∷ row 0xF0 POP_MASK (Byte 0 0) (λ first next. PopMask (first % 2 ^ 4 * 2 ^ 8 + next))
    -- 10011101, 10011111: reserved for moves of registers that this core doesn't have
    ∷ reserved_row 0xFD 0x9D Nothing
    -- 1001nnnn: vsp is a register
    ∷ row 0xF0 RESTORE Nothing (λ first next. Restore (first % 2 ^ 4))
    -- 10100nnn, 10101nnn: pop r4 to r4+n; and lr
    ∷ row 0xF8 POP_RANGE Nothing (λ first next. PopRange (first % 2 ^ 3))
    ∷ row 0xF8 POP_RANGE_AND_LR Nothing (λ first next. PopRangeAndLr (first % 2 ^ 3))
    -- 10110000: finish
    ∷ row 0xFF FINISH Nothing (λ first next. Finish)
    -- 10110001 0000iiii: pop r0 to r3 under a mask that isn't empty
    ∷ reserved_row 0xFF POP_LOW (Byte 0xFF 0)
    ∷ row 0xFF POP_LOW (Byte 0xF0 0) (λ first next. PopLow next)
    -- 10110010 and a ULEB128: vsp rises
    ∷ row 0xFF RAISE_LONG Number (λ first next. RaiseLong next)
    ∷ []

-- what follows a first byte, and in how many bytes; None if it isn't what has to
abbrev pub operand_front : Operand → List ℕ → Option (ℕ × ℕ)
operand_front Nothing more = Some (0, 0)
operand_front (Byte mask value) [] = None
operand_front (Byte mask value) (next ∷ _) = if bit_and next mask == value then Some (next, 1) else None
operand_front Number more = result_ok (uleb128_front more)

-- the instruction of a row that fits, and its size in bytes; else what later rows give
abbrev pub read_code_by : Row → ℕ → Option (ℕ × ℕ) → Option (UnwindCode × ℕ) → Option (UnwindCode × ℕ)
read_code_by row first None later = later
read_code_by row first (Some next) later = option_map (λ code. (code, 1 + next.1)) (row.means first next.0)

abbrev pub first_fit : List Row → ℕ → List ℕ → Option (UnwindCode × ℕ)
first_fit [] first more = None
first_fit (row ∷ rest) first more =
    let later = first_fit rest first more in
    read_code_by row first (if bit_and first row.mask == row.value then operand_front row.operand more else None) later

-- the instruction that begins with a byte in front of others, and its size in bytes; None if these bytes begin none
unfoldable pub code_front : ℕ → List ℕ → Option (UnwindCode × ℕ)
code_front first more = first_fit rows first more
