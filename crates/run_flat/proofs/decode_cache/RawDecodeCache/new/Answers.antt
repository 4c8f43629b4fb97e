use Rattle.std.proofs.Common.{None, Option, sym, subst}
use Rattle.std.proofs.lemmas.List.{get_or-replicate}
use Rattle.run_flat.specs.Cached.{IsLine}
use Rattle.run_flat.specs.declared.decode_cache.TheConstants.{LINES}
use Rattle.run_flat.specs.declared.decode_cache.RawCacheLine.{RawCacheLine}
use Rattle.run_flat.proofs.decode_cache.RawDecodeCache.new.Goals as goal

pub returns : goal.returns
returns c = record { lines = λ k below. subst (λ (o : Option RawCacheLine). IsLine o) (sym (get_or-replicate {A = Option RawCacheLine} LINES k None None below)) tt }
