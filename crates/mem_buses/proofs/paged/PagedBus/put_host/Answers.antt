use Rattle.mem_buses.proofs.paged.PagedBus.put_host.Goals as goal

pub invariant_of-self : goal.invariant_of-self
invariant_of-self c =
    let k = rw c.deref.ensures.value at c.write_word.ensures.made in
    record {
      sound = k.sound;
      used = k.used;
      owned = k.owned;
      stack_span = rw c.write_word.ensures.places c.args.self.now.stack_span;
      pool_span = rw c.write_word.ensures.places c.args.self.now.pool_span;
      code_span = rw c.write_word.ensures.places c.args.self.now.code_span;
      stack_open = c.args.self.now.stack_open;
      code_runs = c.args.self.now.code_runs;
      mapped = rw k.made k.mapped;
      rising = c.args.self.now.rising;
    }
