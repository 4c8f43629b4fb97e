use Rattle.link_laws.proofs.Targets.{law_of_calls, law_of_jumps, law_of_cond_jumps, law_of_wide_jumps, law_of_zero_jumps, law_of_addresses, law_of_loads}
use Rattle.link_laws.proofs.names_lead_to_what_they_mean.Goals as goal

pub returns : goal.returns
returns c = record {
  calls = law_of_calls;
  jumps = law_of_jumps;
  conditions = law_of_cond_jumps;
  wide = law_of_wide_jumps;
  zero = law_of_zero_jumps;
  addresses = law_of_addresses;
  loads = law_of_loads;
}
