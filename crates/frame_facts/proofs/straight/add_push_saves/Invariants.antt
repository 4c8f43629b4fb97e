use Rattle.std.proofs.Common.{◌≡◌, ◌≤◌, ◌+◌, ◌-◌, ◌*◌, length}
use Rattle.thumb_core.proofs.Listed.{listed_from}
use Rattle.frame_facts.specs.Facts.{some_if}
use Rattle.frame_facts.specs.Prologues.{with_push_saves}
use Rattle.frame_facts.proofs.straight.add_push_saves.Given as goal

abbrev pub invariant-loop-n : goal.invariant-loop-n
invariant-loop-n l = record {
  far : l.offset ≤ l.fact.depth + 4 * l.n;
  offset : l.offset ≡ l.fact.depth + 4 * length (listed_from (16 - l.n) l.list);
  grown : some_if l.fits l.grown ≡ with_push_saves l.initial.grown l.fact (listed_from (16 - l.n) l.list);
}
