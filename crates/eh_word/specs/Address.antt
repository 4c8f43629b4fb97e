-- Addresses in the lines that are written.
use Rattle.std.specs.Prelude.{◌≡◌, ℕ, ◌+◌, ◌*◌, ◌-◌, ◌/◌, ◌%◌, ◌^◌, ◌<◌, nat_lt, List, [], ◌∷◌, map, fold, if◌then◌else◌}

-- an upper-case hexadecimal digit
abbrev pub hex_digit : ℕ → ℕ
hex_digit n = if nat_lt n 10 then 48 + n else 55 + n

-- an address: eight digits
abbrev pub address_text : ℕ → List ℕ
address_text n = map (λ k. hex_digit (n / 16 ^ k % 16)) (7 ∷ 6 ∷ 5 ∷ 4 ∷ 3 ∷ 2 ∷ 1 ∷ 0 ∷ [])

-- ---- a law above them

-- what a digit counts: `0` is 48, `9` is 57 and `A` is 65
abbrev pub digit_value : ℕ → ℕ
digit_value c = if nat_lt c 65 then c - 48 else c - 65 + 10

-- the number that digits to the base 16 stand for
abbrev pub number_of : List ℕ → ℕ
number_of digits = fold (λ n c. n * 16 + digit_value c) 0 digits

abbrev pub ReadsBack : Type 0
ReadsBack = (n : ℕ) → n < 2 ^ 32 → number_of (address_text n) ≡ n
