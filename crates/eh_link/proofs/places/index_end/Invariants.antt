use Rattle.std.proofs.Common.{◌≡◌, ◌≤◌, ◌+◌, ◌*◌, drop, length}
use Rattle.std.specs.List.{sum_by}
use Rattle.eh_codes.specs.declared.row.TheConstants.{ROW_SIZE}
use Rattle.eh_link.specs.Layout.{index_size}
use Rattle.eh_link.specs.declared.places.TheConstants.{REACH}
use Rattle.eh_link.proofs.places.index_end.Given as goal

abbrev pub invariant-loop-object : goal.invariant-loop-object
invariant-loop-object l =
    (l.at ≤ REACH) × (l.at + ROW_SIZE * sum_by (λ object. length object.rows) (drop l.object-index l.objects) ≡ l.start + index_size l.objects)
