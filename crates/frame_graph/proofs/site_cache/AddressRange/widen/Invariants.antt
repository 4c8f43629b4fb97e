use Rattle.std.proofs.Common.{Some}
use Rattle.frame_graph.specs.SiteCaching.{IsWithin}
use Rattle.frame_graph.proofs.site_cache.AddressRange.widen.Given as goal

abbrev pub invariant-loop-item : goal.invariant-loop-item
invariant-loop-item l = IsWithin (Some l.span) l.self
