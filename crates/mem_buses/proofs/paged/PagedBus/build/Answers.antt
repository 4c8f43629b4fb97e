use Rattle.std.proofs.Common.{lit≤, refl}
use Rattle.eh_bus.proofs.BuiltLemmas.{built_segments, image_bytes}
use Rattle.eh_bus.proofs.PartLaws.{gives_image}
use Rattle.mem_buses.proofs.PageLaws.{stack_opens}
use Rattle.mem_buses.proofs.paged.PagedBus.build.Goals as goal

pub invariant_of-result-clause-mapped : goal.invariant_of-result-clause-mapped
invariant_of-result-clause-mapped c =
    let l = c.in_ok-laid.ensures in
    rw (l.lays).made (built_segments c.args.segments.now c.requires (image_bytes c.args.segments.now l.bytes))

pub invariant_of-result-clause-stack_open : goal.invariant_of-result-clause-stack_open
invariant_of-result-clause-stack_open c =
    let l = c.in_ok-laid.ensures in
    stack_opens _ _ _ _ _ (l.lays).made (built_segments c.args.segments.now c.requires (image_bytes c.args.segments.now l.bytes))
    (rw c.deref.ensures.value at c.span_of-stack.ensures.span) c.span_of-stack.ensures.part

pub invariant_of-result-clause-rising : goal.invariant_of-result-clause-rising
invariant_of-result-clause-rising c = rw c.in_ok-guards.ensures (lit≤ tt)

pub returns-clause-memory : goal.returns-clause-memory
returns-clause-memory c = let l = c.in_ok-laid.ensures in rw ((l.lays).made, c.in_ok-guards.ensures) refl

pub returns-clause-gives : goal.returns-clause-gives
returns-clause-gives c = let l = c.in_ok-laid.ensures in rw ((l.lays).made, c.in_ok-guards.ensures) (gives_image c.args.segments.now)
