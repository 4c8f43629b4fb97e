use Rattle.std.proofs.Common.{◌≡◌, ◌⊎◌, ℕ, ◌<◌, ◌≤◌, get_or}
use Rattle.mem_guards.proofs.guards.clear_whole.Given as goal

abbrev pub invariant-loop-k : goal.invariant-loop-k
invariant-loop-k l =
    ((n : ℕ) → l.from ≤ n → n < l.k → get_or l.numbers n 0 ≡ 0)
    × ((n : ℕ) → ((n < l.from) ⊎ (l.to ≤ n)) → get_or l.numbers n 0 ≡ get_or l.initial.numbers n 0)
