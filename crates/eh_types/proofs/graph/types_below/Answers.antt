use Rattle.std.proofs.Common.{rules}
use Rattle.std.proofs.lemmas.List.Sorted.{IsPartitionPoint-from_clause, IsPartitionedBy-ltb}
use Rattle.eh_types.specs.Graph.{Row}
use Rattle.eh_types.proofs.Lookups.{partition_is, rows_rise, is_below, no_row}
use Rattle.eh_types.proofs.graph.types_below.Goals as goal

pub returns-clause-count : goal.returns-clause-count
returns-clause-count c =
    let xs = c.args.types.now in
    partition_is (is_below c.args.ty) xs _ no_row c.partition_point.ensures.bound
    (IsPartitionPoint-from_clause (is_below c.args.ty) xs _ c.partition_point.ensures.partitioned
    (IsPartitionedBy-ltb (λ (r : Row). r.at) xs c.args.ty (rows_rise 0 xs c.requires)) (λ a r q k. search rules))
