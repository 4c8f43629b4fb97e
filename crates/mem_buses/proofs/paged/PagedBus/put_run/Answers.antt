use Rattle.std.proofs.Common.{arith}
use Rattle.mem_buses.proofs.PageLaws.{near_run_free, is_run}
use Rattle.mem_buses.proofs.paged.PagedBus.put_run.Goals as goal

pub write_near-requires-clause-high : goal.write_near-requires-clause-high
write_near-requires-clause-high c = let f = c.is_near_run.ensures.free c.if-is_near_run.true in omega (arith, f.high)

pub invariant_of-self : goal.invariant_of-self
invariant_of-self c =
    let k = rw c.deref.ensures.value at c.write_near.ensures.made in
    record {
      sound = k.sound;
      used = k.used;
      owned = k.owned;
      stack_span = rw c.write_near.ensures.places c.args.self.now.stack_span;
      pool_span = rw c.write_near.ensures.places c.args.self.now.pool_span;
      code_span = rw c.write_near.ensures.places c.args.self.now.code_span;
      stack_open = c.args.self.now.stack_open;
      code_runs = c.args.self.now.code_runs;
      mapped = rw k.made k.mapped;
      rising = c.args.self.now.rising;
    }

pub returns-then-is_near_run : goal.returns-then-is_near_run
returns-then-is_near_run c =
    let bus = c.args.self.now in
    let yes = c.if-is_near_run.true in
    let k = rw c.deref.ensures.value at c.write_near.ensures.made in
    is_run _ _ _ _ c.args.a c.args.words.now
    (near_run_free bus.pages bus.parts.items bus.stack bus.guards c.args.a c.args.words.now (c.is_near_run.ensures.aligned yes) (c.is_near_run.ensures.free yes) bus.sound bus.owned bus.stack_span bus.stack_open (c.is_near_run.ensures.within yes))
    k.made
