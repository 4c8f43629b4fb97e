use Rattle.std.proofs.Common.{ap, ◌∙◌, arith}
use Rattle.eh_bus.specs.Memory.{Memory}
use Rattle.thread_memory.proofs.Freeing.{free_after_host}
use Rattle.thread_memory.proofs.bus.ThreadBusBus.host_store32.Goals as goal

pub invariant_of-self : goal.invariant_of-self
invariant_of-self g c = record {
  rising = c.args.self.now.rising;
  within = c.args.self.now.within;
  at_home = c.args.self.now.at_home;
  its_own = c.args.self.now.its_own;
  plain = ap (λ (m : Memory). m.guards) c.host_store32.ensures.stored ∙ c.args.self.now.plain;
  few = omega (arith, c.max-self.ensures, c.args.self.now.few);
  free = free_after_host _ c.args.a c.args.v _ c.args.self.now.used c.max-self.result c.host_store32.ensures.stored c.requires.aligned c.requires.low
      (omega (arith, c.max-self.ensures)) (omega (arith, c.max-self.ensures)) c.args.self.now.free;
}
