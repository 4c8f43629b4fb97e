use Rattle.eh_machine.proofs.Cached.{is_fetched}
use Rattle.eh_machine.proofs.Confirmed.{stands_at}
use Rattle.eh_machine.proofs.decode_cache.DecodeCache.find_confirmed.Goals as goal

pub returns : goal.returns
returns c = λ p m cache is.
    let line = c.in-Some.ensures.confirmed m is in
    is_fetched p m c.args.address c.in-Some.line.now (c.in-Some.ensures.cache p cache (line.kept c.if-line-self.false)) c.in-Some.ensures.address
    (stands_at c.args.self.now.round m c.args.address c.in-Some.line.now line c.if-line-self.false c.in-Some.ensures.address)
