use Rattle.std.proofs.Common.{◌≡◌, drop}
use Rattle.eh_bus.specs.Memory.{store_words}
use Rattle.eh_bus.specs.Map.{AreSegments}
use Rattle.mem_buses.proofs.access.run_write.Given as goal

abbrev pub invariant-loop-word : goal.invariant-loop-word
invariant-loop-word l =
    (store_words l.segments l.at (drop l.word-index l.words) ≡ store_words l.initial.segments l.a l.words)
    × (AreSegments l.initial.segments → AreSegments l.segments)
