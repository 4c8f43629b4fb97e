use Rattle.std.proofs.Common.{◌≡◌, ◌++◌, drop, map}
use Rattle.eh_link.specs.Index.{row_of, rows_in}
use Rattle.eh_link.proofs.index.put_rows.Given as goal

abbrev pub invariant-loop-row : goal.invariant-loop-row
invariant-loop-row l = l.out.items ++ map (row_of l.placed.at) (drop l.row-index l.row-items) ≡ l.initial.out.items ++ rows_in l.placed
