use Rattle.mem_buses.proofs.CallLaws.{guards_keep_map}
use Rattle.eh_bus.proofs.GuardOrder.{inserted_rises}
use Rattle.thread_memory.proofs.bus.ThreadBusBus.guard.Goals as goal

pub invariant_of-self : goal.invariant_of-self
invariant_of-self g c = record {
  rising = rw c.insert.ensures (inserted_rises _ c.args.a _ c.requires.low c.requires.aligned c.requires.high c.args.self.now.rising);
  within = c.args.self.now.within;
  at_home = c.args.self.now.at_home;
  its_own = c.args.self.now.its_own;
  plain = c.args.self.now.plain;
  few = c.args.self.now.few;
  free = c.args.self.now.free;
}

pub returns-clause-keeps : goal.returns-clause-keeps
returns-clause-keeps g c = guards_keep_map _ _
