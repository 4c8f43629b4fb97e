use Rattle.std.proofs.Common.{refl}
use Rattle.frame_graph.proofs.Stretches.{untold}
use Rattle.frame_graph.proofs.site_cache.SiteCache.forget.Goals as goal

pub returns-clause-stretch : goal.returns-clause-stretch
returns-clause-stretch c s site i is = untold s _ refl refl c.clear.ensures.items site is

pub returns-clause-tells : goal.returns-clause-tells
returns-clause-tells c s site is = untold s _ refl refl c.clear.ensures.items site is
