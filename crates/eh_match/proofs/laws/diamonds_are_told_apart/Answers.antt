use Rattle.eh_match.proofs.Classes.{two_plain_bases_fail, plain_and_virtual_base_fail, virtual_base_is_one}
use Rattle.eh_match.proofs.laws.diamonds_are_told_apart.Goals as goal

pub returns-clause-two : goal.returns-clause-two
returns-clause-two c = two_plain_bases_fail

pub returns-clause-mixed : goal.returns-clause-mixed
returns-clause-mixed c = plain_and_virtual_base_fail

pub returns-clause-one : goal.returns-clause-one
returns-clause-one c = virtual_base_is_one
