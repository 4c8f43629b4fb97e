use Rattle.std.proofs.Common.{◌≡◌, ℕ, ◌<◌, None}
use Rattle.eh_index.specs.Refusal.{entry_refusal}
use Rattle.eh_index.proofs.index.rows_refusal.Given as goal

abbrev pub invariant-loop-k : goal.invariant-loop-k
invariant-loop-k l = (j : ℕ) → j < l.k → entry_refusal l.image j ≡ None
