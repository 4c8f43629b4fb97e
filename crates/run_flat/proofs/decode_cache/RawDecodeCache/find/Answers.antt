use Rattle.std.proofs.Common.{refl}
use Rattle.run_flat.proofs.Cached.{is_there}
use Rattle.run_flat.proofs.decode_cache.RawDecodeCache.find.Goals as goal

pub returns : goal.returns
returns g c = is_there (g.B.Bus.memory c.args.bus.now) c.args.address c.in-Some.line.now c.in-Some.ensures (c.if-not-are_unchanged.ensures refl c.in-Some.ensures.pair)
