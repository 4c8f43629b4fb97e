use Rattle.std.proofs.Common.{◌≡◌, not}
use Rattle.std.specs.List.{list_any}
use Rattle.thumb_core.specs.Words.{registers_of_list}
use Rattle.thumb_core.proofs.Listed.{listed_from}
use Rattle.frame_facts.specs.Prologues.{is_free}
use Rattle.frame_facts.proofs.straight.all_free.Given as goal

abbrev pub invariant-loop-k : goal.invariant-loop-k
invariant-loop-k l = list_any (λ reg. not (is_free reg)) (listed_from l.k l.list) ≡ list_any (λ reg. not (is_free reg)) (registers_of_list l.list)
