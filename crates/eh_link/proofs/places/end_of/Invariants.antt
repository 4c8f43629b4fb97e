use Rattle.std.proofs.Common.{◌≡◌, ◌≤◌, drop}
use Rattle.eh_link.specs.Layout.{end_of}
use Rattle.eh_link.specs.declared.places.TheConstants.{REACH}
use Rattle.eh_link.proofs.places.end_of.Given as goal

abbrev pub invariant-loop-object : goal.invariant-loop-object
invariant-loop-object l = (l.at ≤ REACH) × (end_of l.section l.at (drop l.object-index l.objects) ≡ end_of l.section l.start l.objects)
