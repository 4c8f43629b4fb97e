use Rattle.std.proofs.Common.{refl}
use Rattle.eh_machine.proofs.Cached.{is_fetched}
use Rattle.eh_machine.proofs.decode_cache.DecodeCache.find.Goals as goal

pub returns : goal.returns
returns g c = λ p cache.
    let of = c.in-Some.ensures.cache p cache c.if-not-line.false in
    is_fetched p (g.B.Bus.memory c.args.bus.now) c.args.address c.in-Some.line.now of c.in-Some.ensures.address (c.if-not-are_unchanged.ensures refl of.pair)
