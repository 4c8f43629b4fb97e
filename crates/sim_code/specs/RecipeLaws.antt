-- Unwinding by codes gives each register what their recipe says; and which codes have a recipe that an unwinder can follow.
use Rattle.std.specs.Prelude.{◌≡◌, ◌<◌, ℕ, true, List, length, Ok, slice_index_or}
use Rattle.eh_bus.specs.Lists.{Has}
use Rattle.eh_bus.specs.Segment.{Segment}
use Rattle.eh_cxa.specs.Lists.{Once}
use Rattle.frame_check.specs.frame_entries.Unwinding.{pop_once}
use Rattle.eh_codes.specs.Cut.{Item, split_codes}
use Rattle.eh_bytecode.specs.declared.recipe.Recipe.{Recipe}
use Rattle.eh_bytecode.specs.declared.recipe.Src.TheVariants.{Same}
use Rattle.eh_bytecode.specs.Meaning.{unwind_result}
use Rattle.eh_bytecode.specs.Once.{popped_registers}
use Rattle.eh_bytecode.specs.Recipe.{recipe}
use Rattle.eh_bytecode.specs.RecipeLaw.{Small}
use Rattle.sim_code.specs.Recipes.{CanRead, Gives, Bytes, IsRecipe, AreRegisters}

-- unwinding by codes with a recipe gives what the recipe says
abbrev pub RecipesSay : Type 0
RecipesSay = (m : List Segment) (old new : List ℕ) (items : List Item) (of : Recipe) → length old ≡ 16 → Small old → recipe items ≡ Ok of → unwind_result m old items ≡ Ok new → Gives m old of new

-- it succeeds if each word that the recipe names can be read, and no register is popped twice
abbrev pub RecipesFinish : Type 0
RecipesFinish = (m : List Segment) (old : List ℕ) (items : List Item) (of : Recipe) → length old ≡ 16 → Small old → recipe items ≡ Ok of → Once (popped_registers items)
    → ((k : ℕ) → Has (popped_registers items) k → k < 16) → ((k : ℕ) → k < 16 → CanRead m old of.base (slice_index_or of.src k Same)) → (new : List ℕ) × (unwind_result m old items ≡ Ok new)

-- codes that are bytes never pop sp, and the words of their recipe lie at multiples of 4
abbrev pub BytesAreRecipes : Type 0
BytesAreRecipes = (codes : List ℕ) (of : Recipe) → Bytes codes → recipe (split_codes codes) ≡ Ok of → pop_once (split_codes codes) ≡ true → IsRecipe (split_codes codes) of

-- from sixteen 32-bit words, sixteen 32-bit words
abbrev pub RegistersStay : Type 0
RegistersStay = (m : List Segment) (old new : List ℕ) (items : List Item) → AreRegisters old → unwind_result m old items ≡ Ok new → AreRegisters new
