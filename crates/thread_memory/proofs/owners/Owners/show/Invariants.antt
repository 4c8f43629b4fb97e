use Rattle.std.proofs.Common.{◌≡◌, take}
use Rattle.eh_cxa.specs.Words.{set_slot_words}
use Rattle.thread_memory.specs.Owners.{changes_from}
use Rattle.thread_memory.proofs.owners.Owners.show.Given as goal

abbrev pub invariant-loop-slot : goal.invariant-loop-slot
invariant-loop-slot g l = g.B.Bus.memory l.bus ≡ set_slot_words (changes_from l.old l.new 0 (take l.slot l.self.slots)) (g.B.Bus.memory l.initial.bus)
