use Rattle.std.proofs.Common.{◌≡◌, drop}
use Rattle.eh_bus.specs.Memory.{run_fault}
use Rattle.mem_buses.specs.Pages.{byte_of, segments_at}
use Rattle.mem_buses.proofs.paged.run_fault.Given as goal

abbrev pub invariant-loop-word : goal.invariant-loop-word
invariant-loop-word l =
    run_fault l.guards (segments_at (byte_of l.pages) l.parts) l.at (drop l._word-index l.words) ≡ run_fault l.guards (segments_at (byte_of l.pages) l.parts) l.a l.words
