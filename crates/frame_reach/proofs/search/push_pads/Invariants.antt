use Rattle.std.proofs.Common.{take}
use Rattle.frame_reach.specs.Search.{IsSound, Grows, AreLanded}
use Rattle.frame_reach.proofs.search.push_pads.Given as goal

abbrev pub invariant-loop-edge : goal.invariant-loop-edge
invariant-loop-edge l = record { sound : IsSound l.flow_graph l.found; grows : Grows l.initial.found l.found; landed : AreLanded l.found (take l.edge-index l.edges) }
