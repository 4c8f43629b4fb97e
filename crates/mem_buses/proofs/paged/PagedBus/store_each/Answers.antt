use Rattle.std.proofs.Common.{sym, ◌∙◌}
use Rattle.mem_buses.proofs.PageLaws.{run_aligned}
use Rattle.mem_buses.proofs.paged.PagedBus.store_each.Goals as goal

pub run_write-requires-clause-aligned : goal.run_write-requires-clause-aligned
run_write-requires-clause-aligned c = run_aligned _ _ c.args.a c.args.words.now (sym c.run_fault.ensures ∙ c.in_default.is)

pub invariant_of-self-2 : goal.invariant_of-self-2
invariant_of-self-2 c =
    let k = rw c.deref-2.ensures.value at c.run_write.ensures.made in
    record {
      sound = k.sound;
      used = k.used;
      owned = k.owned;
      stack_span = rw c.run_write.ensures.places c.args.self.now.stack_span;
      pool_span = rw c.run_write.ensures.places c.args.self.now.pool_span;
      code_span = rw c.run_write.ensures.places c.args.self.now.code_span;
      stack_open = c.args.self.now.stack_open;
      code_runs = c.args.self.now.code_runs;
      mapped = rw k.made k.mapped;
      rising = c.args.self.now.rising;
    }
