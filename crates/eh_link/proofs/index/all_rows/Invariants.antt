use Rattle.std.proofs.Common.{◌≡◌, ◌++◌, drop}
use Rattle.std.specs.List.{flat_map}
use Rattle.eh_link.specs.Index.{rows_in}
use Rattle.eh_link.proofs.index.all_rows.Given as goal

abbrev pub invariant-loop-placed : goal.invariant-loop-placed
invariant-loop-placed l = l.out.items ++ flat_map rows_in (drop l.placed-index l.all) ≡ flat_map rows_in l.all
