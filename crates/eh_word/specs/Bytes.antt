-- Zeros and multiples, which several crates count and write. No standard defines them.
use Rattle.std.specs.Prelude.{◌≡◌, ℕ, ◌+◌, ◌-◌, ◌*◌, ◌/◌, ◌%◌, List, length, replicate}
use Rattle.std.proofs.lemmas.List.{length-replicate}

-- n zero bytes
unfoldable pub zeros : ℕ → List ℕ
zeros n = replicate n 0

pub length-zeros : (n : ℕ) → length (zeros n) ≡ n
unfolding zeros
length-zeros n = length-replicate n 0

-- the least multiple of a step that is at least n
abbrev pub next_multiple : ℕ → ℕ → ℕ
next_multiple n step = (n + (step - 1)) / step * step

-- the distance from n to the next multiple of step
abbrev pub gap : ℕ → ℕ → ℕ
gap n step = (step - n % step) % step
