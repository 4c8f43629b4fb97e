-- A number counted to 2 ^ 33 is of the same kind.
use Rattle.std.proofs.Common.{◌≡◌, ℕ, ◌+◌, ◌*◌, min, Bool, List, [], ◌∷◌, Option, Some, None, refl, arith}
use Rattle.std.proofs.lemmas.Bool.Decides.{nat_tests}
use Rattle.asm_read.specs.declared.token.TheConstants.{MANY}
use Rattle.asm_read.specs.Tokens.{hex_digit, decimal_digit, number_from, number_of, kind_of_number}
use Rattle.asm_read.specs.Capped.{capped_number_from, capped_number}

-- the least of the number and 2 ^ 33
abbrev cut : Option ℕ → Option ℕ
cut None = None
cut (Some n) = Some (min MANY n)

capped : (digit : ℕ → Option ℕ) (base : ℕ) → ((n d : ℕ) → min MANY (min MANY n * base + d) ≡ min MANY (n * base + d)) → (bs : List ℕ) (n : ℕ) → capped_number_from digit base (min MANY n) bs ≡ cut (number_from digit base n bs)
capped digit base step [] n = refl
capped digit base step (b ∷ bs) n = grind (arith, step n, capped digit base step bs)

pub same_kind : (negative : Bool) (run : List ℕ) → kind_of_number negative (capped_number run) ≡ kind_of_number negative (number_of run)
same_kind negative run = grind (arith, nat_tests, capped hex_digit 16 (λ n d. omega arith), capped decimal_digit 10 (λ n d. omega arith))
