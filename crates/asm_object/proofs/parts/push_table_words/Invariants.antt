use Rattle.std.proofs.Common.{◌≡◌, ◌++◌, drop, flat_map}
use Rattle.asm_object.specs.Bytes.{word_bytes}
use Rattle.asm_object.proofs.parts.push_table_words.Given as goal

abbrev pub invariant-loop-word : goal.invariant-loop-word
invariant-loop-word l =
    l.bytes ++ flat_map word_bytes (drop l.word-index l.words) ≡ l.initial.bytes ++ flat_map word_bytes l.words
