use Rattle.std.proofs.Common.{ℕ, nat_le, Bool, false, rules}
use Rattle.std.proofs.lemmas.List.Sorted.{IsPartitionPoint-from_clause, IsPartitionedBy-leb}
use Rattle.elf_image.proofs.Search.{partition_is, non_decreasing}
use Rattle.elf_image.proofs.Lookups.{marks_ascend}
use Rattle.elf_image.proofs.mark.marks_up_to.Goals as goal

pub returns-clause-count : goal.returns-clause-count
returns-clause-count c =
    let xs = c.args.marks.now in
    partition_is (λ (m : ℕ × Bool). nat_le m.0 c.args.a) xs _ (0, false) c.partition_point.ensures.bound
    (IsPartitionPoint-from_clause (λ (m : ℕ × Bool). nat_le m.0 c.args.a) xs _ c.partition_point.ensures.partitioned
    (IsPartitionedBy-leb (λ (m : ℕ × Bool). m.0) xs c.args.a (non_decreasing (λ (m : ℕ × Bool). m.0) 0 xs (marks_ascend xs c.requires))) (λ a r q k. search rules))
