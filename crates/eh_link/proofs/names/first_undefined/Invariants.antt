use Rattle.std.proofs.Common.{◌≡◌, drop}
use Rattle.eh_link.specs.Symbols.{first_undefined}
use Rattle.eh_link.proofs.names.first_undefined.Given as goal

abbrev pub invariant-loop-object : goal.invariant-loop-object
invariant-loop-object l = first_undefined l.objects (drop l.object-index l.objects) ≡ first_undefined l.objects l.objects
