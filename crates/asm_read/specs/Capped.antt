-- Numbers of digits, capped at 2 ^ 33: anything from there on is outside 32 bits (docs/rules/sources.md, "Tokens").
use Rattle.std.specs.Prelude.{ℕ, ◌+◌, ◌*◌, min, if◌then◌else◌, List, [], ◌∷◌, drop, Option, Some, None, option_and_then}
use Rattle.asm_read.specs.declared.token.TheConstants.{MANY}
use Rattle.asm_read.specs.Tokens.{hex_digit, decimal_digit, is_hexadecimal}

abbrev pub capped_number_from : (ℕ → Option ℕ) → ℕ → ℕ → List ℕ → Option ℕ
capped_number_from digit base n [] = Some n
capped_number_from digit base n (b ∷ bs) =
    option_and_then (λ d. capped_number_from digit base (min MANY (n * base + d)) bs) (digit b)

abbrev pub capped_number : List ℕ → Option ℕ
capped_number run =
    if is_hexadecimal run then capped_number_from hex_digit 16 0 (drop 2 run) else capped_number_from decimal_digit 10 0 run

-- adds a start to a count
abbrev pub option_plus : ℕ → Option ℕ → Option ℕ
option_plus n None = None
option_plus n (Some m) = Some (n + m)
