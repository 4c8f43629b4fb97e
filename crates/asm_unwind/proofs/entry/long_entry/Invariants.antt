use Rattle.std.proofs.Common.{◌≡◌, ◌+◌, ◌*◌, ◌∷◌, map}
use Rattle.std.specs.List.{range_with_len}
use Rattle.asm_unwind.specs.Entries.{word_at}
use Rattle.asm_unwind.proofs.entry.long_entry.Given as goal

abbrev pub invariant-loop-k : goal.invariant-loop-k
invariant-loop-k l = l.words.items ≡ l.first ∷ map (λ k. word_at l.bytes (2 + 4 * k)) (range_with_len 0 l.k)
