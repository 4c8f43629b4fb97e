use Rattle.std.proofs.Common.{arith}
use Rattle.eh_bus.proofs.BuiltLemmas.{spaced}
use Rattle.bench_bus.specs.declared.TheConstants.{FIRST, STEP}
use Rattle.bench_bus.proofs.segments.Goals as goal

pub returns : goal.returns
returns c = spaced c.loop-number.all.items FIRST STEP c.loop-number.invariant.spaced (omega (arith, c.loop-number.invariant.count)) (omega (arith, c.loop-number.invariant.count))
