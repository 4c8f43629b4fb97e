use Rattle.std.proofs.Common.{◌≡◌, length}
use Rattle.thumb_ahead.specs.declared.undo_record.TheConstants.{MOST}
use Rattle.thumb_ahead.specs.UndoRecord.{SoFar}
use Rattle.thumb_ahead.proofs.undo_record.record_words.Given as goal

abbrev pub invariant-loop-k : goal.invariant-loop-k
invariant-loop-k g l = record {
  count : length l.words ≡ MOST;
  so_far : SoFar (g.B.Bus.memory l.bus) l.at l.count l.k l.words;
}
