use Rattle.link_laws.proofs.Labels.{law_of_symbols, law_of_labels}
use Rattle.link_laws.proofs.labels_stand_in_their_parts.Goals as goal

pub returns : goal.returns
returns c = record { symbols = law_of_symbols; meanings = law_of_labels }
