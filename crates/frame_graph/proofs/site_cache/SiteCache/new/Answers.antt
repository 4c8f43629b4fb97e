use Rattle.std.proofs.Common.{refl, None, false}
use Rattle.frame_graph.proofs.Stretches.{untold}
use Rattle.frame_graph.proofs.site_cache.SiteCache.new.Goals as goal

pub returns-clause-stretch : goal.returns-clause-stretch
returns-clause-stretch c s site i is = untold s (record { span = record { low = 0; last = 4294967295 }; entry = None; scoped = false; out = false; edges = c.new.result }) refl refl c.new.ensures.items site is

pub returns-clause-tells : goal.returns-clause-tells
returns-clause-tells c s site is = untold s (record { span = record { low = 0; last = 4294967295 }; entry = None; scoped = false; out = false; edges = c.new.result }) refl refl c.new.ensures.items site is
