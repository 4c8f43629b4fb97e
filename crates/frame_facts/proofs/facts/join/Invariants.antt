use Rattle.std.proofs.Common.{◌≡◌, ◌++◌, take, drop, length}
use Rattle.frame_facts.specs.Facts.{met_sources}
use Rattle.frame_facts.proofs.facts.join.Given as goal

-- what is met already, and the meeting of the rest
abbrev pub invariant-loop-k : goal.invariant-loop-k
invariant-loop-k l = record {
  met : take l.k l.regs ++ met_sources (drop l.k l.regs) (drop l.k l.b.regs) ≡ met_sources l.a.regs l.b.regs;
  long : length l.regs ≡ 14;
}
