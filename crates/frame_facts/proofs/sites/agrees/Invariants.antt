use Rattle.std.proofs.Common.{◌≡◌, ◌-◌}
use Rattle.std.specs.List.{find}
use Rattle.thumb_core.specs.Words.{numbers}
use Rattle.thumb_core.proofs.Listed.{numbers_from}
use Rattle.frame_facts.specs.Agrees.{fails_register}
use Rattle.frame_facts.proofs.sites.agrees.Given as goal

abbrev pub invariant-loop-reg : goal.invariant-loop-reg
invariant-loop-reg l = find (fails_register l.p l.r l.is_call l.here) (numbers_from (16 - l.reg) l.reg) ≡ find (fails_register l.p l.r l.is_call l.here) numbers
