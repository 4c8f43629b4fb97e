use Rattle.std.proofs.Common.{arith}
use Rattle.eh_cxa.specs.Words.{word}
use Rattle.thread_memory.proofs.Noting.{all_unused, rest_noted, free_noted}
use Rattle.thread_memory.proofs.owners.Owners.update_after.Goals as goal

pub invariant_of-self : goal.invariant_of-self
invariant_of-self g c = record {
  few = omega (arith, c.update_first-self.ensures.within);
  rest = all_unused c.args.thread (word (g.B.Bus.memory c.args.bus.now)) c.args.self.now.slots _ c.args.self.now.used c.max.result c.update_first-self.result
      (omega (arith, c.max.ensures)) c.args.self.now.rest c.update_first-self.ensures.noted c.update_first-self.ensures.rest;
}

pub returns-clause-slots : goal.returns-clause-slots
returns-clause-slots g c =
    rest_noted c.args.thread (word (g.B.Bus.memory c.args.bus.now)) c.args.self.now.slots _ c.max.result (omega arith)
    (λ s l h. c.requires.free s (omega (arith, c.max.ensures)) h) (λ s l. c.args.self.now.rest s (omega (arith, c.max.ensures))) c.update_first-self.ensures.noted

pub returns-clause-free : goal.returns-clause-free
returns-clause-free g c =
    free_noted c.args.thread (word (g.B.Bus.memory c.args.bus.now)) c.args.self.now.slots _ c.max.result c.update_first-self.result
    (λ s l h. c.requires.free s (omega (arith, c.max.ensures)) h) c.update_first-self.ensures.noted
    (all_unused c.args.thread (word (g.B.Bus.memory c.args.bus.now)) c.args.self.now.slots _ c.args.self.now.used c.max.result c.update_first-self.result
    (omega (arith, c.max.ensures)) c.args.self.now.rest c.update_first-self.ensures.noted c.update_first-self.ensures.rest)
