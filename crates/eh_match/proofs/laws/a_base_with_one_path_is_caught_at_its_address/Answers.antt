use Rattle.eh_match.proofs.Classes.{one_path_is_caught, one_plain_path_is_caught}
use Rattle.eh_match.proofs.laws.a_base_with_one_path_is_caught_at_its_address.Goals as goal

pub returns-clause-path : goal.returns-clause-path
returns-clause-path c = one_path_is_caught

pub returns-clause-plain : goal.returns-clause-plain
returns-clause-plain c = one_plain_path_is_caught
