use Rattle.std.proofs.Common.{◌≡◌, ◌-◌}
use Rattle.std.specs.List.{list_all}
use Rattle.thumb_core.proofs.Listed.{numbers_from}
use Rattle.frame_facts.specs.Branches.{holds_own, preserved_by_calls}
use Rattle.frame_facts.proofs.branches.all_own.Given as goal

abbrev pub invariant-loop-reg : goal.invariant-loop-reg
invariant-loop-reg l = list_all (holds_own l.fact) (numbers_from (12 - l.reg) l.reg) ≡ list_all (holds_own l.fact) preserved_by_calls
