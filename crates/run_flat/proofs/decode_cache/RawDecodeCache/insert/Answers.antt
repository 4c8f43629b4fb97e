use Rattle.run_flat.proofs.Cached.{is_of_line}
use Rattle.run_flat.proofs.decode_cache.RawDecodeCache.insert.Goals as goal

pub put-requires-clause-of : goal.put-requires-clause-of
put-requires-clause-of g c = is_of_line (g.B.Bus.memory c.args.bus.now) c.args.address c.in-Some.halfwords c.args.instr c.args.size c.requires.there c.in-Some.ensures
