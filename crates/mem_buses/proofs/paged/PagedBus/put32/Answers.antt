use Rattle.mem_buses.proofs.PageLaws.{pages_stored, is_store}
use Rattle.mem_buses.proofs.paged.PagedBus.put32.Goals as goal

pub invariant_of-self-2 : goal.invariant_of-self-2
invariant_of-self-2 c =
    let k =
    pages_stored 4 c.args.self.now.pages c.store32.new.self c.args.self.now.parts.items c.args.a _ _ c.args.v c.args.self.now.sound c.args.self.now.used c.args.self.now.owned
    c.args.self.now.mapped (rw c.deref.ensures.value at c.in_ok-found.ensures.cell) c.store32.ensures in
    record {
      sound = k.sound;
      used = k.used;
      owned = k.owned;
      stack_span = rw c.store32.ensures c.args.self.now.stack_span;
      pool_span = rw c.store32.ensures c.args.self.now.pool_span;
      code_span = rw c.store32.ensures c.args.self.now.code_span;
      stack_open = c.args.self.now.stack_open;
      code_runs = c.args.self.now.code_runs;
      mapped = rw k.made k.mapped;
      rising = c.args.self.now.rising;
    }

pub returns : goal.returns
returns c =
    let k =
    pages_stored 4 c.args.self.now.pages c.store32.new.self c.args.self.now.parts.items c.args.a _ _ c.args.v c.args.self.now.sound c.args.self.now.used c.args.self.now.owned
    c.args.self.now.mapped (rw c.deref.ensures.value at c.in_ok-found.ensures.cell) c.store32.ensures in
    is_store 4 _ _ _ _ c.args.a c.args.v (rw c.deref.ensures.value at c.in_ok-found.ensures.ok) k.made
