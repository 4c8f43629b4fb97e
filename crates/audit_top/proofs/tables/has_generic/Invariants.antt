use Rattle.std.proofs.Common.{◌≡◌}
use Rattle.eh_index.specs.Rows.{entry_count}
use Rattle.audit_top.specs.Tables.{has_generic}
use Rattle.audit_top.proofs.Generics.{any_from}
use Rattle.audit_top.proofs.tables.has_generic.Given as goal

-- the rows so far have none
abbrev pub invariant-loop-k : goal.invariant-loop-k
invariant-loop-k l = (l.k-end ≡ entry_count l.index) × (any_from l.index l.k l.k-end ≡ has_generic l.index)
