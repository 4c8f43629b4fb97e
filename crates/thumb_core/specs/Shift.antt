-- Shifts of whole numbers, with the last bit that is shifted out.
use Rattle.std.specs.Prelude.{ℕ, ◌-◌, ◌*◌, ◌/◌, ◌%◌, ◌^◌, pos, Bool, ◌==◌, nat_le, if◌then◌else◌}
use Rattle.thumb_core.specs.declared.shift.TheConstants.{LSL, LSR}
use Rattle.std.specs.Int.{cast_signed, cast_unsigned, w32, int_div_euclid, rotate_right}

-- LSL: x times 2 ^ n, modulo 2 ^ 32, and the lowest bit that is lost
abbrev pub left_shift : ℕ → ℕ → ℕ × Bool
left_shift x n = (x * 2 ^ n % 2 ^ 32, x * 2 ^ n / 2 ^ 32 % 2 == 1)

-- LSR: x divided by 2 ^ n, rounded down, and the highest bit that is lost
abbrev pub right_shift : ℕ → ℕ → ℕ × Bool
right_shift x n = (x / 2 ^ n, x / 2 ^ (n - 1) % 2 == 1)

-- ASR: the same of x as a signed number
abbrev pub signed_shift : ℕ → ℕ → ℕ × Bool
signed_shift x n =
    let signed = cast_signed w32 x in
    (cast_unsigned w32 (int_div_euclid signed (pos (2 ^ n))), cast_unsigned w32 (int_div_euclid signed (pos (2 ^ (n - 1)))) % 2 == 1)

-- LSL, LSR and ASR. A shift by 0 leaves the carry
abbrev pub shift_of : ℕ → ℕ → ℕ → Bool → ℕ × Bool
shift_of op x n carry =
    if n == 0 then (x, carry)
    else (if op == LSL then left_shift x n else (if op == LSR then right_shift x n else signed_shift x n))

-- ROR: x rotated right by n bits, and its new top bit
abbrev pub rotation_of : ℕ → ℕ → Bool → ℕ × Bool
rotation_of x n carry =
    if n == 0 then (x, carry) else (rotate_right w32 x n, nat_le (2 ^ 31) (rotate_right w32 x n))
