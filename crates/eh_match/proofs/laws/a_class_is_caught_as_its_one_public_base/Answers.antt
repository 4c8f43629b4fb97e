use Rattle.eh_match.proofs.Classes.{no_public_path_fails, parted_bases_fail, one_base_is_caught}
use Rattle.eh_match.proofs.laws.a_class_is_caught_as_its_one_public_base.Goals as goal

pub returns-clause-not_public : goal.returns-clause-not_public
returns-clause-not_public c = no_public_path_fails

pub returns-clause-parted : goal.returns-clause-parted
returns-clause-parted c = parted_bases_fail

pub returns-clause-caught : goal.returns-clause-caught
returns-clause-caught c = one_base_is_caught
