use Rattle.std.proofs.Common.{◌≡◌, ◌++◌, drop, map}
use Rattle.eh_link.specs.Fields.{fill_object, lower, lowest_unreachable}
use Rattle.eh_link.proofs.fill.fill_each.Given as goal

abbrev pub invariant-loop-placed : goal.invariant-loop-placed
invariant-loop-placed l =
    (l.parts.items ++ map (fill_object l.all) (drop l.placed-index l.all) ≡ map (fill_object l.all) l.all)
    × (lower l.lowest (lowest_unreachable l.all (drop l.placed-index l.all)) ≡ lowest_unreachable l.all l.all)
