-- The bytes of the unwinding instructions (IHI 0038, "Frame unwinding instructions").
use Rattle.std.specs.Prelude.{◌≡◌, ◌≢◌, ℕ, ◌<◌, ◌+◌, ◌/◌, ◌%◌, ◌^◌, nat_lt, if◌then◌else◌, List, [], ◌∷◌}
use Rattle.std.specs.Int.{bit_at}
use Rattle.eh_codes.specs.declared.code.UnwindCode.{UnwindCode}
use Rattle.eh_codes.specs.declared.code.UnwindCode.TheVariants.{Raise, Lower, Refuse, PopMask, Restore, PopRange, PopRangeAndLr, Finish, PopLow, RaiseLong}
use Rattle.eh_codes.specs.declared.code.TheConstants.{RAISE, LOWER, POP_MASK, RESTORE, POP_RANGE, POP_RANGE_AND_LR, FINISH, POP_LOW, RAISE_LONG}

-- the shortest ULEB128 of a number below 2 ^ 14
abbrev pub shortest_uleb128 : ℕ → List ℕ
shortest_uleb128 number = if nat_lt number 128 then number ∷ [] else (128 + number % 128) ∷ (number / 128) ∷ []

-- the bytes of a code
abbrev pub code_bytes : UnwindCode → List ℕ
code_bytes (Raise words) = (RAISE + words) ∷ []
code_bytes (Lower words) = (LOWER + words) ∷ []
code_bytes Refuse = POP_MASK ∷ 0 ∷ []
code_bytes (PopMask mask) = (POP_MASK + mask / 256) ∷ (mask % 256) ∷ []
code_bytes (Restore register) = (RESTORE + register) ∷ []
code_bytes (PopRange last) = (POP_RANGE + last) ∷ []
code_bytes (PopRangeAndLr last) = (POP_RANGE_AND_LR + last) ∷ []
code_bytes Finish = FINISH ∷ []
code_bytes (PopLow mask) = POP_LOW ∷ mask ∷ []
code_bytes (RaiseLong words) = RAISE_LONG ∷ shortest_uleb128 words

-- the operands fit the instruction's bits, and the number of a long raise has at most 14 bits
abbrev pub HasBytes : UnwindCode → Type 0
HasBytes (Raise words) = words < 64
HasBytes (Lower words) = words < 64
HasBytes Refuse = Unit {0}
HasBytes (PopMask mask) = mask < 2 ^ 12
HasBytes (Restore register) = register < 16
HasBytes (PopRange last) = last < 8
HasBytes (PopRangeAndLr last) = last < 8
HasBytes Finish = Unit {0}
HasBytes (PopLow mask) = mask < 16
HasBytes (RaiseLong words) = words < 2 ^ 14

-- the standard has that code: its fields fit, no mask is empty, and none has the stack pointer, r13; the virtual stack pointer is
-- taken from neither r13 nor r15
abbrev pub IsCode : UnwindCode → Type 0
IsCode (PopMask mask) = (mask < 2 ^ 12) × (mask ≢ 0) × (bit_at mask 9 ≡ 0)
IsCode (Restore register) = (register < 16) × (register ≢ 13) × (register ≢ 15)
IsCode (PopLow mask) = (mask < 16) × (mask ≢ 0)
IsCode (RaiseLong words) = words < 2 ^ 32
IsCode code = HasBytes code
