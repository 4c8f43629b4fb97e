use Rattle.std.proofs.Common.{sym, subst, refl}
use Rattle.frame_entries.specs.Scopes.{Item}
use Rattle.frame_graph.specs.SiteCaching.{IsCut}
use Rattle.frame_graph.proofs.Stretches.{cut_at}
use Rattle.frame_graph.proofs.site_cache.AddressRange.cut.Goals as goal

pub returns-in-Ok : goal.returns-in-Ok
returns-in-Ok c =
    subst (λ (item : Item). IsCut c.args.self c.args.site item c.same_side-in-Ok.result) (sym c.in-Ok.is)
    (cut_at c.args.self c.same_side.result c.same_side-in-Ok.result c.args.site _ c.in-Ok.d refl c.same_side-in-Ok.ensures.holds c.same_side.ensures.within c.same_side-in-Ok.ensures.within c.same_side.ensures.side c.same_side-in-Ok.ensures.side)
