use Rattle.std.proofs.Common.{nat_lt, rules}
use Rattle.std.proofs.lemmas.List.Sorted.{IsPartitionPoint-from_clause, IsPartitionedBy-ltb}
use Rattle.elf_image.proofs.Search.{partition_is}
use Rattle.elf_image.proofs.symbol.zeros_below.Goals as goal

pub returns : goal.returns
returns c =
    let zs = c.args.zeros.now in
    partition_is (λ z. nat_lt z c.args.at) zs _ 0 c.partition_point.ensures.bound
    (IsPartitionPoint-from_clause (λ z. nat_lt z c.args.at) zs _ c.partition_point.ensures.partitioned
    (IsPartitionedBy-ltb (λ z. z) zs c.args.at c.requires) (λ a r q k. search rules))
