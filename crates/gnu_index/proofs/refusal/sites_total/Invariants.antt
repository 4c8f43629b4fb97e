use Rattle.std.proofs.Common.{◌≡◌, ◌+◌, ◌*◌, ◌^◌, ◌≤◌, fold}
use Rattle.std.specs.List.{range_with_len}
use Rattle.gnu_index.specs.Refusal.{sites_size}
use Rattle.gnu_index.proofs.refusal.sites_total.Given as goal

abbrev pub invariant-loop-k : goal.invariant-loop-k
invariant-loop-k l = (l.total ≤ l.k * 2 ^ 32) × (l.total ≡ fold (λ n k. n + sites_size l.index k) 0 (range_with_len 0 l.k))
