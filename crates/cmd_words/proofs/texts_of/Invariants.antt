use Rattle.std.proofs.Common.{◌≡◌, map, take, string_bytes}
use Rattle.cmd_answers.specs.Words.{texts}
use Rattle.cmd_words.proofs.texts_of.Given as goal

-- the texts are those of the words so far
abbrev pub invariant-loop-word : goal.invariant-loop-word
invariant-loop-word l = texts l.texts.items ≡ map string_bytes (take l.word-index l.words)
