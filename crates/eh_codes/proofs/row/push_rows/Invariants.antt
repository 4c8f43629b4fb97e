use Rattle.std.proofs.Common.{◌≡◌, ◌++◌, drop}
use Rattle.eh_codes.specs.Rows.{rows_bytes}
use Rattle.eh_codes.proofs.row.push_rows.Given as goal

abbrev pub invariant-loop-row : goal.invariant-loop-row
invariant-loop-row l = l.bytes.items ++ rows_bytes l.at (drop l.row-index l.rows) ≡ l.initial.bytes.items ++ rows_bytes l.place l.rows
