use Rattle.eh_cxa.specs.Words.{word}
use Rattle.thread_memory.proofs.Noting.{Nobodys}
use Rattle.thread_memory.proofs.owners.Owners.unowned.Given as goal

abbrev pub invariant-loop-slot : goal.invariant-loop-slot
invariant-loop-slot g l = Nobodys (word (g.B.Bus.memory l.bus)) l.slots l.slot
