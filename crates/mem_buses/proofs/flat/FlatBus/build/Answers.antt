use Rattle.std.proofs.Common.{lit≤}
use Rattle.eh_bus.proofs.BuiltLemmas.{built_segments, image_bytes}
use Rattle.eh_bus.proofs.PartLaws.{gives_image}
use Rattle.mem_buses.proofs.flat.FlatBus.build.Goals as goal

pub invariant_of-result-clause-mapped : goal.invariant_of-result-clause-mapped
invariant_of-result-clause-mapped c = rw c.in_ok-segments.ensures.built (built_segments c.args.segments.now c.requires (image_bytes c.args.segments.now c.in_ok-segments.ensures.bytes))

pub invariant_of-result-clause-rising : goal.invariant_of-result-clause-rising
invariant_of-result-clause-rising c = rw c.in_ok-guards.ensures (lit≤ tt)

pub returns-clause-gives : goal.returns-clause-gives
returns-clause-gives c = rw (c.in_ok-segments.ensures.built, c.in_ok-guards.ensures) (gives_image c.args.segments.now)
