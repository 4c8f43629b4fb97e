-- What a loop over the words of a push has guarded.
use Rattle.std.specs.Prelude.{ℕ, ◌+◌, ◌-◌, ◌*◌, ◌==◌, List, map, filter}
use Rattle.std.specs.Int.{bit_at}
use Rattle.std.specs.List.{range_with_len}

-- the addresses of words k to `count` - 1 that the bits of `saves` name
unfoldable pub saved_words_from : ℕ → ℕ → ℕ → ℕ → List ℕ
saved_words_from saves k count sp = map (λ j. sp + 4 * j) (filter (λ j. bit_at saves j == 1) (range_with_len k (count - k)))
