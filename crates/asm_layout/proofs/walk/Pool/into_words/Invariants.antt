use Rattle.std.proofs.Common.{◌≡◌, ◌++◌}
use Rattle.asm_layout.proofs.walk.Pool.into_words.Given as goal

abbrev pub invariant-loop-word : goal.invariant-loop-word
invariant-loop-word l = l.words.items ++ l.word-iterator ≡ l.fn.self
