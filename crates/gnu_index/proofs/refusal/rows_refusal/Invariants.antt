use Rattle.std.proofs.Common.{◌≡◌, ◌-◌, ◌≤◌}
use Rattle.std.specs.List.{range_with_len}
use Rattle.eh_index.specs.Rows.{entry_count}
use Rattle.gnu_index.specs.declared.refusal.TheConstants.{SITES_LIMIT}
use Rattle.gnu_index.specs.Refusal.{first_refusal}
use Rattle.gnu_index.proofs.refusal.rows_refusal.Given as goal

abbrev pub invariant-loop-k : goal.invariant-loop-k
invariant-loop-k l =
    (l.before ≤ SITES_LIMIT) × (first_refusal l.index l.before (range_with_len l.k (l.count - l.k)) ≡ first_refusal l.index 0 (range_with_len 0 (entry_count l.index)))
