use Rattle.std.proofs.Common.{◌≡◌, ◌+◌, drop}
use Rattle.std.specs.List.{prefix_len}
use Rattle.eh_word.specs.Words.{has_more}
use Rattle.eh_word.proofs.words.continuation_count.Given as goal

-- every byte so far is followed by another one
abbrev pub invariant-loop-i : goal.invariant-loop-i
invariant-loop-i l = l.i + prefix_len has_more (drop l.i l.front) ≡ prefix_len has_more l.front
