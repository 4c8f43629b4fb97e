use Rattle.link_laws.proofs.Said.{law_of_words, law_of_halves, law_of_bytes}
use Rattle.link_laws.proofs.Texts.{law_of_texts, law_of_zeroed_texts, law_of_spaces}
use Rattle.link_laws.proofs.numbers_are_as_given.Goals as goal

pub returns : goal.returns
returns c = record { words = law_of_words; halves = law_of_halves; bytes = law_of_bytes; texts = law_of_texts; zeroed = law_of_zeroed_texts; spaces = law_of_spaces }
