use Rattle.eh_link.proofs.Equations.{law_of_absolute, law_of_relative, law_of_prel31, law_of_calls, law_of_jumps, law_of_cond_jumps}
use Rattle.eh_link.proofs.Images.{law_of_reach}
use Rattle.eh_link.proofs.fields_satisfy_their_equations.Goals as goal

pub returns : goal.returns
returns c = record {
  absolute = law_of_absolute;
  relative = law_of_relative;
  prel31 = law_of_prel31;
  call = law_of_calls;
  jump = law_of_jumps;
  cond_jump = law_of_cond_jumps;
  reach = law_of_reach;
}
