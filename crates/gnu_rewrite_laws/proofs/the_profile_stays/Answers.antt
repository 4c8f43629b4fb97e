use Rattle.gnu_rewrite_laws.proofs.Profile.{law_of_profile, law_of_second}
use Rattle.gnu_rewrite_laws.proofs.the_profile_stays.Goals as goal

pub returns : goal.returns
returns c = record { profile = law_of_profile; second = law_of_second }
