use Rattle.gnu_rewrite.proofs.Making.{few_bytes}
use Rattle.gnu_rewrite.proofs.translation.segments_of.Goals as goal

pub segments_with-requires : goal.segments_with-requires
segments_with-requires c = few_bytes c.in_ok-bytes.bytes.items c.args.tables.now.bytes c.rows_start.result c.args.tables.now.rows c.in_ok-bytes.ensures c.requires
