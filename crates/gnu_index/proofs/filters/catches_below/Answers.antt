use Rattle.std.proofs.Common.{ℕ, nat_lt, rules}
use Rattle.std.proofs.lemmas.List.Sorted.{IsPartitionPoint-from_clause, IsPartitionedBy-ltb}
use Rattle.elf_image.proofs.Search.{partition_is, non_decreasing}
use Rattle.gnu_index.proofs.Halving.{filters_ascend}
use Rattle.gnu_index.proofs.filters.catches_below.Goals as goal

pub returns-clause-count : goal.returns-clause-count
returns-clause-count c =
    let xs = c.args.filters.now in
    partition_is (λ (f : ℕ × ℕ). nat_lt f.0 c.args.desc) xs _ (0, 0) c.partition_point.ensures.bound
    (IsPartitionPoint-from_clause (λ (f : ℕ × ℕ). nat_lt f.0 c.args.desc) xs _ c.partition_point.ensures.partitioned
    (IsPartitionedBy-ltb (λ (f : ℕ × ℕ). f.0) xs c.args.desc (non_decreasing (λ (f : ℕ × ℕ). f.0) 0 xs (filters_ascend xs c.requires))) (λ a r q k. search rules))
