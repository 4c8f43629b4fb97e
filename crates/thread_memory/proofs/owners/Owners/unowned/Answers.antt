use Rattle.std.proofs.Common.{arith}
use Rattle.eh_cxa.specs.Words.{word}
use Rattle.thread_memory.proofs.Noting.{all_nobodys}
use Rattle.thread_memory.proofs.owners.Owners.unowned.Goals as goal

pub returns : goal.returns
returns g c = all_nobodys (word (g.B.Bus.memory c.args.bus.now)) c.loop-slot.slots c.loop-slot.slot (omega arith) c.loop-slot.invariant
