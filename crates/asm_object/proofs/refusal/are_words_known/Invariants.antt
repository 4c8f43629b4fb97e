use Rattle.std.proofs.Common.{◌≡◌, drop}
use Rattle.std.specs.List.{list_all}
use Rattle.asm_layout.specs.Labels.{label_places}
use Rattle.asm_object.specs.Values.{is_word_known}
use Rattle.asm_object.proofs.refusal.are_words_known.Given as goal

abbrev pub invariant-loop-word : goal.invariant-loop-word
invariant-loop-word l =
    list_all (λ word. is_word_known (label_places l.labels) word) (drop l.word-index l.words) ≡ list_all (λ word. is_word_known (label_places l.labels) word) l.words
