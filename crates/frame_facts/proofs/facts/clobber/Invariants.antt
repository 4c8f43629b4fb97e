use Rattle.std.proofs.Common.{◌≡◌}
use Rattle.thumb_core.specs.Words.{registers_of_list}
use Rattle.thumb_core.proofs.Listed.{listed_from}
use Rattle.frame_facts.specs.Facts.{forget_registers}
use Rattle.frame_facts.proofs.facts.clobber.Given as goal

abbrev pub invariant-loop-k : goal.invariant-loop-k
invariant-loop-k l = forget_registers (listed_from l.k l.list) l.left ≡ forget_registers (registers_of_list l.list) l.fact
