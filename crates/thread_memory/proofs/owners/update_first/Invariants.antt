use Rattle.std.proofs.Common.{◌≡◌, ℕ, ◌<◌, ◌≤◌}
use Rattle.std.specs.Prelude.{slice_index_or}
use Rattle.eh_cxa.specs.Words.{word}
use Rattle.thread_memory.specs.Owners.{UpdatesOwners, unused}
use Rattle.thread_memory.proofs.owners.update_first.Given as goal

abbrev pub invariant-loop-slot : goal.invariant-loop-slot
invariant-loop-slot g l = record {
  noted : UpdatesOwners l.thread (word (g.B.Bus.memory l.bus)) l.initial.slots l.slots l.slot;
  within : l.used ≤ l.slot;
  rest : (k : ℕ) → l.used ≤ k → k < l.slot → slice_index_or l.slots k unused ≡ unused;
}
