use Rattle.std.proofs.Common.{◌≡◌, drop}
use Rattle.eh_bus.specs.Memory.{run_fault}
use Rattle.mem_buses.proofs.access.run_fault.Given as goal

abbrev pub invariant-loop-word : goal.invariant-loop-word
invariant-loop-word l =
    run_fault l.guards l.segments l.at (drop l._word-index l.words) ≡ run_fault l.guards l.segments l.a l.words
