use Rattle.std.proofs.Common.{◌≡◌, ◌≤◌}
use Rattle.eh_bus.specs.Memory.{guard_all}
use Rattle.eh_machine.specs.Guarded.{saved_words_from}
use Rattle.eh_machine.proofs.guards.guard_saves.Given as goal

abbrev pub invariant-loop-k : goal.invariant-loop-k
invariant-loop-k g l = record {
  within : l.k ≤ l.count;
  so_far : g.B.Bus.memory l.bus ≡ guard_all (saved_words_from l.saves l.k l.count l.sp) (g.B.Bus.memory l.initial.bus);
}

abbrev pub decreases-loop-k : goal.decreases-loop-k
decreases-loop-k g l = l.k
