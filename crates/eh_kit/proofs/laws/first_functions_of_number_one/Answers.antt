use Rattle.eh_kit.proofs.ProgramLaws.{first_of_number_one}
use Rattle.eh_kit.proofs.laws.first_functions_of_number_one.Goals as goal

pub returns : goal.returns
returns c = first_of_number_one
