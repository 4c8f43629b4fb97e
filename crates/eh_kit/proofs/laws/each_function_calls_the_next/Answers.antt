use Rattle.eh_kit.proofs.ProgramLaws.{each_calls_the_next}
use Rattle.eh_kit.proofs.laws.each_function_calls_the_next.Goals as goal

pub returns : goal.returns
returns c = each_calls_the_next
