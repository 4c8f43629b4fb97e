use Rattle.std.proofs.Common.{rules, []}
use Rattle.std.proofs.lemmas.List.Sorted.{IsPartitionPoint-from_clause}
use Rattle.asm_read.specs.Forms.{CodeRow, row_of}
use Rattle.asm_read.specs.Search.{is_before}
use Rattle.asm_read.proofs.Rising.{parted, partition_is}
use Rattle.asm_read.proofs.choice.begin_of.Goals as goal

pub returns-clause-count : goal.returns-clause-count
returns-clause-count c =
    let xs = c.args.rows.now in
    partition_is (λ (r : CodeRow). is_before (row_of r).word c.args.word.now) xs _ c.partition_point.ensures.bound
    (IsPartitionPoint-from_clause (λ (r : CodeRow). is_before (row_of r).word c.args.word.now) xs _ c.partition_point.ensures.partitioned
    (parted xs [] c.args.word.now c.requires) (λ a r q k. search rules))
