use Rattle.eh_kit.proofs.ProgramLaws.{drawn_as_rand}
use Rattle.eh_kit.proofs.laws.numbers_are_drawn_as_rand.Goals as goal

pub returns : goal.returns
returns c = drawn_as_rand
