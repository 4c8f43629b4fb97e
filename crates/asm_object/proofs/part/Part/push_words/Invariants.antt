use Rattle.std.proofs.Common.{◌≡◌, ◌++◌, drop, map}
use Rattle.asm_layout.specs.Labels.{label_places}
use Rattle.asm_layout.specs.Words.{word_of}
use Rattle.asm_object.specs.Pieces.{words_bytes, word_relocs}
use Rattle.asm_object.proofs.part.Part.push_words.Given as goal

abbrev pub invariant-loop-expr : goal.invariant-loop-expr
invariant-loop-expr l = record {
  bytes : l.self.bytes ++ words_bytes (label_places l.labels) (map word_of (drop l.expr-index l.words))
      ≡ l.initial.self.bytes ++ words_bytes (label_places l.labels) (map word_of l.words);
  relocs : l.self.relocs ++ word_relocs l.at.section l.offset (map word_of (drop l.expr-index l.words))
      ≡ l.initial.self.relocs ++ word_relocs l.at.section l.at.offset (map word_of l.words);
}
