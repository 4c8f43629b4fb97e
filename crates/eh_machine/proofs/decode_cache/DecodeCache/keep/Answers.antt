use Rattle.std.proofs.Common.{refl}
use Rattle.eh_machine.proofs.Cached.{is_of_line}
use Rattle.eh_machine.proofs.decode_cache.DecodeCache.keep.Goals as goal

pub returns-clause-cache : goal.returns-clause-cache
returns-clause-cache g c = λ p cache is begins.
    c.put.ensures.cache p cache (is_of_line p (g.B.Bus.memory c.args.bus.now) c.args.address c.in-Some.halfwords c.args.fetched c.round_of-confirmed.result c.args.begins is begins c.in-Some.ensures)

pub returns-clause-confirmed : goal.returns-clause-confirmed
returns-clause-confirmed g c = λ is.
    c.put.ensures.confirmed (g.B.Bus.memory c.args.bus.now) is (record {
      within = c.round_of-confirmed.ensures.within is.begun;
      kept = λ e. refl;
      stands = λ e. c.are_read_only-is_fast.ensures.fast (c.round_of-confirmed.ensures.fast is.begun e) c.in-Some.ensures;
    })
