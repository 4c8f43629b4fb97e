use Rattle.std.proofs.Common.{arith}
use Rattle.eh_bus.proofs.BuiltLemmas.{spaced}
use Rattle.test_calls.proofs.pages.one_byte_each.Goals as goal

pub returns : goal.returns
returns c = spaced c.loop-k.all.items 0x8000 1 c.loop-k.invariant.spaced (omega (arith, c.loop-k.invariant.count)) (omega (arith, c.loop-k.invariant.count))
