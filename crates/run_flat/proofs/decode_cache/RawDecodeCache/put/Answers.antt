use Rattle.std.proofs.Common.{arith}
use Rattle.run_flat.proofs.Cached.{set_line}
use Rattle.run_flat.proofs.decode_cache.RawDecodeCache.put.Goals as goal

pub returns : goal.returns
returns c = record { lines = set_line c.args.self.now.lines c.line_of.result c.args.line (omega arith) c.requires.cache.lines c.requires.of }
