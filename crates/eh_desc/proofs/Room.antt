-- A word that is there lies among the bytes.
use Rattle.std.proofs.Common.{◌≡◌, ℕ, ◌+◌, ◌≤◌, Bool, true, false, cond, List, length, drop, Some, None, refl, arith}
use Rattle.std.specs.Prelude.{nat_le}
use Rattle.std.proofs.lemmas.Bool.Decides.{nat_tests}
use Rattle.byteorder.specs.Endian.{little_number}
use Rattle.eh_word.specs.Words.{number_at}

pub room : (bytes : List ℕ) (place word : ℕ) → number_at 4 bytes place ≡ Some word → place + 4 ≤ length bytes
unfolding number_at
room bytes place word e = tested (nat_le (place + 4) (length bytes)) refl e
  where
    tested : (b : Bool) → nat_le (place + 4) (length bytes) ≡ b → cond b (Some (little_number 4 (drop place bytes))) None ≡ Some word → place + 4 ≤ length bytes
    tested true s e = grind (arith, nat_tests)
    tested false s e = absurd cc
