use Rattle.std.proofs.Common.{arith}
use Rattle.mem_buses.proofs.CallLaws.{guards_keep_map, run_undone}
use Rattle.thread_memory.proofs.Runs.{run_through}
use Rattle.thread_memory.proofs.Seeing.{seen_map}
use Rattle.thread_memory.proofs.Freeing.{plain_after_run, free_after_run}
use Rattle.thread_memory.proofs.bus.ThreadBusBus.store_run.Goals as goal

pub returns-in-Some-clause-keeps : goal.returns-in-Some-clause-keeps
returns-in-Some-clause-keeps g c = guards_keep_map _ c.args.self.now.guards

pub returns-in-None-clause-undone : goal.returns-in-None-clause-undone
returns-in-None-clause-undone g c =
    run_undone _ _ _ c.args.a _ (omega arith) (seen_map _ _ _ (g.met.B.Bus.is_map c.args.self.now.inner) c.args.self.now.rising c.args.self.now.within)
    (run_through _ c.args.self.now.guards c.args.self.now.thread c.args.a _ _ _ c.args.self.now.plain
    (c.in-None.ensures.none _ (g.met.B.Bus.is_map c.args.self.now.inner).segments) c.store_run.ensures.stored)

pub invariant_of-self : goal.invariant_of-self
invariant_of-self g c = record {
  rising = c.args.self.now.rising;
  within = c.args.self.now.within;
  at_home = c.args.self.now.at_home;
  its_own = c.args.self.now.its_own;
  plain = plain_after_run _ c.args.a c.args.words.now _ _ c.store_run.ensures.stored c.args.self.now.plain;
  few = c.args.self.now.few;
  free = free_after_run _ c.args.a c.args.words.now _ _ c.args.self.now.used c.store_run.ensures.stored c.args.self.now.free;
}
