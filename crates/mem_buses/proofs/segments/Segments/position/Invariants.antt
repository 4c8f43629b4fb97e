use Rattle.std.proofs.Common.{◌≡◌, drop}
use Rattle.std.specs.List.{position_from}
use Rattle.eh_bus.specs.Segment.{holds}
use Rattle.mem_buses.proofs.segments.Segments.position.Given as goal

abbrev pub invariant-loop-i : goal.invariant-loop-i
invariant-loop-i l =
    position_from (λ s. holds s l.a l.n) l.i (drop l.i l.self) ≡ position_from (λ s. holds s l.a l.n) 0 l.self
