use Rattle.std.proofs.Common.{◌≡◌, ◌++◌, drop}
use Rattle.eh_link.specs.Layout.{place_objects_from, place_objects}
use Rattle.eh_link.proofs.Layouts.{Fits}
use Rattle.eh_link.proofs.places.place.Given as goal

abbrev pub invariant-loop-object : goal.invariant-loop-object
invariant-loop-object l =
    (l.all.items ++ place_objects_from l.next (drop l.object-index l.objects) ≡ place_objects l.objects) × Fits l.next (drop l.object-index l.objects)
