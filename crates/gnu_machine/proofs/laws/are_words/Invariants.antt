use Rattle.std.proofs.Common.{ℕ, ◌^◌, ◌<◌, slice_index_or}
use Rattle.gnu_machine.proofs.laws.are_words.Given as goal

-- those that were read are words
abbrev pub invariant-loop-f : goal.invariant-loop-f
invariant-loop-f l = (k : ℕ) (d : ℕ × ℕ) → k < l.f-index → (slice_index_or l.filters k d).1 < 2 ^ 32
