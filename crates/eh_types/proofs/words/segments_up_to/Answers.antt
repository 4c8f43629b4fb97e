use Rattle.std.proofs.Common.{nat_le, rules}
use Rattle.std.proofs.lemmas.List.Sorted.{IsPartitionPoint-from_clause, IsPartitionedBy-leb}
use Rattle.elf_image.specs.Segments.{Segment}
use Rattle.elf_image.proofs.Search.{partition_is}
use Rattle.elf_image.proofs.Lookups.{no_segment}
use Rattle.elf_image.proofs.Ascending.{segments_rise}
use Rattle.eh_types.proofs.words.segments_up_to.Goals as goal

pub returns-clause-count : goal.returns-clause-count
returns-clause-count c =
    let xs = c.args.segments.now in
    partition_is (λ (s : Segment). nat_le s.start c.args.a) xs _ no_segment c.partition_point.ensures.bound
    (IsPartitionPoint-from_clause (λ (s : Segment). nat_le s.start c.args.a) xs _ c.partition_point.ensures.partitioned
    (IsPartitionedBy-leb (λ (s : Segment). s.start) xs c.args.a (segments_rise xs c.requires)) (λ a r q k. search rules))
