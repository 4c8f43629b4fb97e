use Rattle.std.proofs.Common.{◌≡◌, fold}
use Rattle.std.specs.List.{range_with_len}
use Rattle.gnu_index.specs.Tables.{no_tables, with_row}
use Rattle.gnu_index.proofs.tables.rewrite_rows.Given as goal

abbrev pub invariant-loop-k : goal.invariant-loop-k
invariant-loop-k l = l.tables ≡ fold (with_row l.index l.base) no_tables (range_with_len 0 l.k)
