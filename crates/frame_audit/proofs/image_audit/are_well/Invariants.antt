use Rattle.std.proofs.Common.{◌≡◌, drop}
use Rattle.frame_audit.specs.Audits.{are_well}
use Rattle.frame_audit.proofs.image_audit.are_well.Given as goal

-- the functions so far are well
abbrev pub invariant-loop-a : goal.invariant-loop-a
invariant-loop-a l = are_well l.functions ≡ are_well (drop l.a-index l.functions)
