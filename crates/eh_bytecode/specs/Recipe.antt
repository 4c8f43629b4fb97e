-- The effect of unwind instructions without a memory: where each of the caller's registers comes from.
use Rattle.std.specs.Prelude.{◌≡◌, ℕ, ◌*◌, ◌||◌, not, Bool, true, false, if◌then◌else◌, List, [], ◌∷◌, length, replicate, slice_index_or, slice_set, Some, None, is_some, unwrap_or, Result, Ok, Err, ℤ, pos, ◌+ℤ◌, ◌-ℤ◌, int_lt}
use Rattle.eh_codes.specs.Cut.{Item, Is, Bad}
use Rattle.eh_codes.specs.Meaning.{Effect, Rises, Falls, Pops, Takes, Refuses, Finishes, effect}
use Rattle.eh_bytecode.specs.declared.recipe.Src.{Src}
use Rattle.eh_bytecode.specs.declared.recipe.Src.TheVariants.{Same, FromSp, FromBase}
use Rattle.eh_bytecode.specs.declared.recipe.Recipe.{Recipe}
use Rattle.eh_bytecode.specs.declared.recipe.RecipeFault.{RecipeFault}
use Rattle.eh_bytecode.specs.declared.recipe.RecipeFault.TheVariants as fault
use Rattle.eh_bytecode.specs.declared.recipe.PartialRecipe.{PartialRecipe}
use Rattle.eh_bytecode.specs.declared.recipe.RecipeStep.{RecipeStep}
use Rattle.eh_bytecode.specs.declared.recipe.RecipeStep.TheVariants as summed
use Rattle.eh_bytecode.specs.declared.recipe.TheConstants.{MOST_OFFSET}

-- the sum so far after a code, or what ends it
pub data Total : Type 0 where
  Goes : (sum : PartialRecipe) → Total
  Ends : (end : Result Recipe RecipeFault) → Total

abbrev pub is_same : Src → Bool
is_same Same = true
is_same _ = false

-- a word at an offset from the base register (true) or the stack pointer
abbrev pub word_source : Bool → ℤ → Src
word_source based offset = if based then FromBase offset else FromSp offset

-- registers come from consecutive words
abbrev pub fill_sources : Bool → ℤ → List ℕ → List Src → List Src
fill_sources based offset [] src = src
fill_sources based offset (k ∷ more) src = fill_sources based (offset +ℤ pos 4) more (slice_set src k (word_source based offset))

-- an offset is too far from its base
abbrev pub is_far : ℤ → Bool
is_far offset = int_lt (pos MOST_OFFSET) offset || int_lt offset (pos 0 -ℤ pos MOST_OFFSET)

abbrev pub unless_far : PartialRecipe → Total
unless_far sum = if is_far sum.vsp then Ends (Err fault.NotStatic) else Goes sum

-- the finished recipe: unless pc was popped, it has the source of the link register
abbrev pub recipe_of : PartialRecipe → Recipe
recipe_of sum = record {
  base = unwrap_or sum.base 13;
  vsp = sum.vsp;
  src = (if is_same (slice_index_or sum.src 15 Same) then slice_set sum.src 15 (slice_index_or sum.src 14 Same) else sum.src);
}

-- the virtual stack pointer is computed from a register once, and the register wasn't popped before
abbrev pub take_base : PartialRecipe → ℕ → Total
take_base sum register =
    if is_some sum.base || not (is_same (slice_index_or sum.src register Same)) then Ends (Err fault.NotStatic)
    else Goes (record sum { base = Some register; vsp = pos 0 })

abbrev pub sum_after : PartialRecipe → Effect → Total
sum_after sum (Rises by) = unless_far (record sum { vsp = sum.vsp +ℤ pos by })
sum_after sum (Falls by) = unless_far (record sum { vsp = sum.vsp -ℤ pos by })
sum_after sum (Pops registers) = unless_far (record sum {
  vsp = sum.vsp +ℤ pos (4 * length registers);
  src = fill_sources (is_some sum.base) sum.vsp registers sum.src;
})
sum_after sum (Takes register) = take_base sum register
sum_after sum Refuses = Ends (Err fault.Refuses)
sum_after sum Finishes = Ends (Ok (recipe_of sum))

abbrev pub sums_on : (PartialRecipe → Result Recipe RecipeFault) → Total → Result Recipe RecipeFault
sums_on further (Goes sum) = further sum
sums_on further (Ends end) = end

-- adds the instructions in order, up to the first that ends the recipe, or the end of the bytes
abbrev pub sums : PartialRecipe → List Item → Result Recipe RecipeFault
sums sum [] = Ok (recipe_of sum)
sums sum (Bad place ∷ _) = Err fault.BadCode
sums sum (Is code ∷ more) = sums_on (λ next. sums next more) (sum_after sum (effect code))

abbrev pub empty_recipe : PartialRecipe
empty_recipe = record { base = None; vsp = pos 0; src = replicate 16 Same }

-- the recipe of codes, or why there is none
unfoldable pub recipe : List Item → Result Recipe RecipeFault
recipe items = sums empty_recipe items

-- as the answer of a call
abbrev pub total_of : RecipeStep → PartialRecipe → Total
total_of summed.Goes sum = Goes sum
total_of summed.Finishes sum = Ends (Ok (recipe_of sum))
total_of (summed.Stops e) sum = Ends (Err e)

-- an offset isn't too far
abbrev pub IsNear : ℤ → Type 0
IsNear offset = is_far offset ≡ false
