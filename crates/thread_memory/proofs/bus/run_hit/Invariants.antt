use Rattle.std.proofs.Common.{◌≡◌, [], drop}
use Rattle.eh_bus.specs.Map.{AreSegments}
use Rattle.eh_bus.specs.Memory.{run_fault}
use Rattle.eh_bus.specs.Segment.{Segment}
use Rattle.std.specs.Prelude.{List}
use Rattle.thread_memory.proofs.bus.run_hit.Given as goal

abbrev pub invariant-loop-word : goal.invariant-loop-word
invariant-loop-word l = record {
  guarded : (ss : List Segment) → AreSegments ss → run_fault l.guards ss l.at (drop l._word-index l.words) ≡ run_fault l.guards ss l.a l.words;
  free : (ss : List Segment) → AreSegments ss → run_fault [] ss l.at (drop l._word-index l.words) ≡ run_fault [] ss l.a l.words;
}
