use Rattle.link_index_laws.proofs.Found.{law_of_finding, law_of_addresses}
use Rattle.link_index_laws.proofs.functions_are_found.Goals as goal

pub returns : goal.returns
returns c = record { next = law_of_finding; own = law_of_addresses }
