use Rattle.link_laws.proofs.Symbols.{law_of_data, law_of_indexes, law_of_others}
use Rattle.link_laws.proofs.symbols_are_of_objects.Goals as goal

pub returns : goal.returns
returns c = record { parts = law_of_data; index = law_of_indexes; others = law_of_others }
