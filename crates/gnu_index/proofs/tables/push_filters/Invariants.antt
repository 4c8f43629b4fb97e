use Rattle.std.proofs.Common.{◌≡◌, ◌++◌, drop}
use Rattle.gnu_index.specs.Tables.{filters_from}
use Rattle.gnu_index.proofs.tables.push_filters.Given as goal

abbrev pub invariant-loop-s : goal.invariant-loop-s
invariant-loop-s l = l.filters.items ++ filters_from l.at (drop l.s-index l.scopes) ≡ l.initial.filters.items ++ filters_from l.place l.scopes
