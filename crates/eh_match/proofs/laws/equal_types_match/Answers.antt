use Rattle.eh_match.proofs.Others.{types_match_themselves, zero_matches_nothing, unheld_types_stand_alone}
use Rattle.eh_match.proofs.laws.equal_types_match.Goals as goal

pub returns-clause-themselves : goal.returns-clause-themselves
returns-clause-themselves c = types_match_themselves

pub returns-clause-zero : goal.returns-clause-zero
returns-clause-zero c = zero_matches_nothing

pub returns-clause-unheld : goal.returns-clause-unheld
returns-clause-unheld c = unheld_types_stand_alone
