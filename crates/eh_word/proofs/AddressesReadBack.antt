-- The digits of an address are read as the address.
use Rattle.std.proofs.Common.{◌≡◌, ℕ, ◌/◌, ◌%◌, ◌^◌, ◌<◌, arith}
use Rattle.std.proofs.lemmas.Bool.Decides.{nat_tests}
use Rattle.eh_word.specs.Address.{hex_digit, digit_value, ReadsBack}

digit_read : (d : ℕ) → d < 16 → digit_value (hex_digit d) ≡ d
digit_read d h = grind (arith, nat_tests)

value_at : (n q : ℕ) → digit_value (hex_digit (n / q % 16)) ≡ n / q % 16
value_at n q = digit_read (n / q % 16) (omega arith)

pub reads_back : ReadsBack
reads_back n h = rw (value_at n (16 ^ 7), value_at n (16 ^ 6), value_at n (16 ^ 5), value_at n (16 ^ 4), value_at n (16 ^ 3), value_at n (16 ^ 2), value_at n (16 ^ 1), value_at n (16 ^ 0)) (omega arith)
