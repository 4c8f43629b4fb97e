use Rattle.std.proofs.Common.{ℕ, ◌-◌, ◌<◌, ◌≤◌}
use Rattle.eh_index.specs.Rows.{entry_at, entry_count}
use Rattle.eh_index.proofs.index.rows_between.Given as goal

abbrev pub invariant-loop-low : goal.invariant-loop-low
invariant-loop-low l = record {
  ordered : l.low ≤ l.high;
  within : l.high ≤ entry_count l.image;
  below : (k : ℕ) → k < l.low → (entry_at l.image k).start ≤ l.site;
  above : (k : ℕ) → l.high ≤ k → k < entry_count l.image → l.site < (entry_at l.image k).start;
}

abbrev pub decreases-loop-low : goal.decreases-loop-low
decreases-loop-low l = l.high - l.low
