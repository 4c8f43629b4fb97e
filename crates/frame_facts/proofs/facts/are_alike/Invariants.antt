use Rattle.std.proofs.Common.{◌≡◌, drop}
use Rattle.frame_facts.specs.Facts.{same_sources}
use Rattle.frame_facts.proofs.facts.are_alike.Given as goal

abbrev pub invariant-loop-k : goal.invariant-loop-k
invariant-loop-k l = same_sources (drop l.k l.a) (drop l.k l.b) ≡ same_sources l.a l.b
