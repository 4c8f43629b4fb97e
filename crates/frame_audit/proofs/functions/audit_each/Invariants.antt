use Rattle.std.proofs.Common.{◌≡◌, take}
use Rattle.frame_audit.specs.Listing.{AreAudited}
use Rattle.frame_audit.proofs.functions.audit_each.Given as goal

abbrev pub invariant-loop-f : goal.invariant-loop-f
invariant-loop-f l = record {
  audited : AreAudited l.index (take l.f-index l.index.functions) l.audited.items;
  cover : l.cover ≡ l.index;
}
