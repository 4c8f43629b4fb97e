use Rattle.std.proofs.Common.{nat_le, rules}
use Rattle.std.proofs.lemmas.List.Sorted.{IsPartitionPoint-from_clause, IsPartitionedBy-leb}
use Rattle.elf_image.specs.Functions.{Function}
use Rattle.elf_image.proofs.Search.{partition_is}
use Rattle.elf_image.proofs.Lookups.{no_function}
use Rattle.elf_image.proofs.Ascending.{functions_rise}
use Rattle.elf_image.proofs.function.functions_up_to.Goals as goal

pub returns-clause-count : goal.returns-clause-count
returns-clause-count c =
    let xs = c.args.functions.now in
    partition_is (λ (f : Function). nat_le f.start c.args.a) xs _ no_function c.partition_point.ensures.bound
    (IsPartitionPoint-from_clause (λ (f : Function). nat_le f.start c.args.a) xs _ c.partition_point.ensures.partitioned
    (IsPartitionedBy-leb (λ (f : Function). f.start) xs c.args.a (functions_rise xs c.requires)) (λ a r q k. search rules))
