use Rattle.link_laws.proofs.Leading.{law_of_branches, law_of_conditions, law_of_calls, law_of_wide_branches, law_of_zero_branches, law_of_addresses, law_of_loads}
use Rattle.link_laws.proofs.own_names_lead_to_their_labels.Goals as goal

pub returns : goal.returns
returns c = record {
  branches = law_of_branches;
  conditions = law_of_conditions;
  calls = law_of_calls;
  wide = law_of_wide_branches;
  zero = law_of_zero_branches;
  addresses = law_of_addresses;
  loads = law_of_loads;
}
