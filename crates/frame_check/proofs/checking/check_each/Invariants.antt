use Rattle.std.proofs.Common.{◌≡◌, take}
use Rattle.frame_check.specs.Accepts.{AreWell, AreRoles}
use Rattle.frame_check.proofs.checking.check_each.Given as goal

abbrev pub invariant-loop-f : goal.invariant-loop-f
invariant-loop-f l = record {
  well : AreWell l.index (take l.f-index l.index.functions);
  roles : AreRoles l.index (take l.f-index l.index.functions) l.roles;
  cover : l.cover ≡ l.index;
}
