use Rattle.eh_phase_laws.proofs.Standing.{words_are_there, no_others_are_asked, words_are_four_bytes, other_words_are_zero}
use Rattle.eh_phase_laws.proofs.types.words_are_there.Goals as goal

pub returns : goal.returns
returns c = record { there = words_are_there; no_others = no_others_are_asked; bytes = words_are_four_bytes; none = other_words_are_zero }
