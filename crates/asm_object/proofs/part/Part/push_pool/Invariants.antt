use Rattle.std.proofs.Common.{◌≡◌, ◌++◌}
use Rattle.std.specs.Vec.Iter.{into_iter_items}
use Rattle.asm_relocatable.specs.declared.place.Section.TheVariants.{Text}
use Rattle.asm_layout.specs.Labels.{label_places}
use Rattle.asm_object.specs.Pieces.{words_bytes, word_relocs}
use Rattle.asm_object.proofs.part.Part.push_pool.Given as goal

abbrev pub invariant-loop-word : goal.invariant-loop-word
invariant-loop-word l = record {
  bytes : l.self.bytes ++ words_bytes (label_places l.labels) (into_iter_items l.word-iterator) ≡ l.initial.self.bytes ++ words_bytes (label_places l.labels) (into_iter_items l.initial.word-iterator);
  relocs : l.self.relocs ++ word_relocs Text l.offset (into_iter_items l.word-iterator) ≡ l.initial.self.relocs ++ word_relocs Text l.from (into_iter_items l.initial.word-iterator);
}
