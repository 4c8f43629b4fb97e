use Rattle.std.proofs.Common.{◌≡◌, Some, inr, refl, sym}
use Rattle.mem_buses.proofs.CallLaws.{guards_keep_map}
use Rattle.thread_memory.proofs.Seeing.{seen_map}
use Rattle.thread_memory.proofs.Stores.{store_reaches}
use Rattle.thread_memory.specs.Seen.{aligned_hit}
use Rattle.thread_memory.proofs.Freeing.{plain_after_store, free_after_store}
use Rattle.thread_memory.proofs.bus.ThreadBusBus.store32.Goals as goal

pub returns-in-Some-clause-stored : goal.returns-in-Some-clause-stored
returns-in-Some-clause-stored g c =
    let e : aligned_hit c.args.self.now.guards 4 c.args.a ≡ Some c.in-Some.g = cc in
    sym (store_reaches 4 _ c.args.a c.args.v c.in-Some.g (seen_map _ c.args.self.now.guards c.args.self.now.thread (g.met.B.Bus.is_map c.args.self.now.inner) c.args.self.now.rising c.args.self.now.within) (inr (inr refl)) e)

pub returns-in-Some-clause-keeps : goal.returns-in-Some-clause-keeps
returns-in-Some-clause-keeps g c = guards_keep_map _ c.args.self.now.guards

pub invariant_of-self : goal.invariant_of-self
invariant_of-self g c = record {
  rising = c.args.self.now.rising;
  within = c.args.self.now.within;
  at_home = c.args.self.now.at_home;
  its_own = c.args.self.now.its_own;
  plain = plain_after_store 4 _ c.args.a c.args.v _ _ c.store32.ensures.stored c.args.self.now.plain;
  few = c.args.self.now.few;
  free = free_after_store 4 _ c.args.a c.args.v _ _ c.args.self.now.used (inr (inr refl)) c.store32.ensures.stored c.args.self.now.free;
}
