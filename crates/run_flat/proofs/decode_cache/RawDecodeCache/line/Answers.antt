use Rattle.std.proofs.Common.{Option, subst}
use Rattle.run_flat.specs.Cached.{IsLine}
use Rattle.run_flat.specs.declared.decode_cache.RawCacheLine.{RawCacheLine}
use Rattle.run_flat.proofs.decode_cache.RawDecodeCache.line.Goals as goal

pub returns-in-Some : goal.returns-in-Some
returns-in-Some c = subst (λ (o : Option RawCacheLine). IsLine o) c.in-Some.is (c.requires.lines c.line_of.result c.line_of.ensures)
