use Rattle.std.proofs.Common.{◌≡◌, drop}
use Rattle.std.specs.List.{find}
use Rattle.frame_facts.specs.Saves.{lies_at}
use Rattle.frame_facts.proofs.saves.Prologue.word.Given as goal

abbrev pub invariant-loop-save : goal.invariant-loop-save
invariant-loop-save l = find (lies_at l.at l.offset) (drop l.save-index l.saves) ≡ find (lies_at l.at l.offset) l.saves
