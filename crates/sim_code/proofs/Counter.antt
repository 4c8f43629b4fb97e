-- A list that isn't of bytes: its codes have a recipe and pop nothing twice, but they pop sp.
use Rattle.std.proofs.Common.{ℕ, List, [], ◌∷◌, ◌≡◌, true, refl}
use Rattle.std.specs.Prelude.{Ok}
use Rattle.eh_codes.specs.Cut.{split_codes, split_codes_from}
use Rattle.eh_codes.specs.Table.{code_front}
use Rattle.frame_check.specs.frame_entries.Unwinding.{pop_once}
use Rattle.eh_bytecode.specs.Recipe.{recipe}
use Rattle.eh_bytecode.specs.declared.recipe.Recipe.{Recipe}
use Rattle.sim_code.specs.Recipes.{IsRecipe}

abbrev odd_codes : List ℕ
odd_codes = 0x80 ∷ 513 ∷ []

pops_once : pop_once (split_codes odd_codes) ≡ true
unfolding pop_once split_codes_from code_front
pops_once = refl

has_one : (of : Recipe) × (recipe (split_codes odd_codes) ≡ Ok of)
unfolding recipe split_codes_from code_front
has_one = (_, refl)

pub pops_sp : ((codes : List ℕ) (of : Recipe) → recipe (split_codes codes) ≡ Ok of → pop_once (split_codes codes) ≡ true → IsRecipe (split_codes codes) of) → ⊥
unfolding recipe split_codes_from code_front
pops_sp all = let w = (all odd_codes _ refl pops_once).sp in absurd cc
