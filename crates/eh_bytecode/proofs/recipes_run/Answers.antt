use Rattle.eh_bytecode.proofs.RecipeLaws.{law_of_recipes}
use Rattle.eh_bytecode.proofs.recipes_run.Goals as goal

pub returns : goal.returns
returns c = law_of_recipes
