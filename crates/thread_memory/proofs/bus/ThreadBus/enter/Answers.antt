use Rattle.thread_memory.specs.Owners.{changes_from}
use Rattle.thread_memory.proofs.Entering.{stays_plain, enters}
use Rattle.thread_memory.proofs.Seeing.{home_is}
use Rattle.thread_memory.proofs.bus.ThreadBus.enter.Goals as goal

pub invariant_of-self : goal.invariant_of-self
invariant_of-self g c = record {
  rising = c.args.self.now.rising;
  within = c.requires;
  at_home = home_is c.args.thread c.requires;
  its_own = c.home_of-self.ensures;
  plain = stays_plain (changes_from c.args.ran c.args.thread 0 c.update_after.new.self.slots) (g.B.Bus.memory c.args.self.now.inner) (g.B.Bus.memory c.show.new.bus) c.show.ensures.memory c.args.self.now.plain;
  few = c.update_after.new.self.few;
  free = c.show.ensures.free c.update_after.ensures.free;
}

pub returns-clause-memory : goal.returns-clause-memory
returns-clause-memory g c =
    enters c.args.ran c.args.thread c.args.self.now.thread c.update_after.new.self.slots (g.B.Bus.memory c.args.self.now.inner) (g.B.Bus.memory c.show.new.bus) c.args.self.now.guards c.show.ensures.memory

pub returns-clause-map : goal.returns-clause-map
returns-clause-map g c = c.show.ensures.map
