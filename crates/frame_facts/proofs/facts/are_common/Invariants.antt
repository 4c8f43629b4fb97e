use Rattle.std.proofs.Common.{◌≡◌, drop}
use Rattle.frame_facts.proofs.Staying.{stayed}
use Rattle.frame_facts.proofs.facts.are_common.Given as goal

abbrev pub invariant-loop-k : goal.invariant-loop-k
invariant-loop-k l = stayed (drop l.k l.held) (drop l.k l.other) ≡ stayed l.held l.other
