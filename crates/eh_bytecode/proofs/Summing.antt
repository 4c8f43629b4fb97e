-- One item more of a recipe.
use Rattle.std.proofs.Common.{◌≡◌, ℕ, ◌+◌, ◌-◌, ◌≤◌, ◌<◌, List, length, drop, Some, None, arith, ◌∙◌, ap, sym, length-drop, ℤ, pos}
use Rattle.std.specs.Prelude.{Result, Ok, Err, ◌+ℤ◌, ◌-ℤ◌}
use Rattle.eh_codes.specs.declared.code.UnwindCode.{UnwindCode}
use Rattle.eh_codes.specs.Cut.{split_codes, split_codes_from}
use Rattle.eh_codes.specs.Meaning.{effect, Pops, Rises, Falls}
use Rattle.eh_bytecode.specs.declared.recipe.Recipe.{Recipe}
use Rattle.eh_bytecode.specs.declared.recipe.RecipeFault.{RecipeFault}
use Rattle.eh_bytecode.specs.declared.recipe.RecipeFault.TheVariants.{BadCode}
use Rattle.eh_bytecode.specs.declared.recipe.PartialRecipe.{PartialRecipe}
use Rattle.eh_bytecode.specs.Codes.{first_code}
use Rattle.eh_bytecode.specs.Recipe.{Total, Goes, Ends, sum_after, unless_far, sums, sums_on, recipe, recipe_of, empty_recipe}
use Rattle.eh_bytecode.proofs.Unwinds.{front_bounds, cut_code, cut_none, cut_empty}

pub sum_code : (s : PartialRecipe) (place : ℕ) (left : List ℕ) (code : UnwindCode) (size : ℕ) → Some (code, size) ≡ first_code left →
    sums s (split_codes_from place left) ≡ sums_on (λ next. sums next (split_codes_from (place + size) (drop size left))) (sum_after s (effect code))
sum_code s place left code size is = ap (sums s) (cut_code place left code size is)

pub sum_goes : (s next : PartialRecipe) (total place : ℕ) (left after : List ℕ) (code : UnwindCode) (size : ℕ) → Some (code, size) ≡ first_code left →
    sum_after s (effect code) ≡ Goes next → after ≡ drop size left → length left ≤ total → place ≡ total - length left →
    sums next (split_codes_from (total - length after) after) ≡ sums s (split_codes_from place left)
sum_goes s next total place left after code size is goes e fits at =
    let bounds = front_bounds left code size is in
    let rest : length after ≡ length left - size = ap length e ∙ length-drop size left in
    let there : total - length after ≡ place + size = omega (arith, bounds.0, bounds.1) in
    sym (sum_code s place left code size is ∙ ap (sums_on (λ next. sums next (split_codes_from (place + size) (drop size left)))) goes
    ∙ ap (λ l. sums next (split_codes_from (place + size) l)) (sym e) ∙ ap (λ p. sums next (split_codes_from p after)) (sym there))

pub sum_ends : (s : PartialRecipe) (end : Result Recipe RecipeFault) (place : ℕ) (left : List ℕ) (code : UnwindCode) (size : ℕ) → Some (code, size) ≡ first_code left →
    sum_after s (effect code) ≡ Ends end → sums s (split_codes_from place left) ≡ end
sum_ends s end place left code size is ends = sum_code s place left code size is ∙ ap (sums_on (λ next. sums next (split_codes_from (place + size) (drop size left)))) ends

pub sum_bad : (s : PartialRecipe) (place : ℕ) (left : List ℕ) → None ≡ first_code left → 0 < length left → sums s (split_codes_from place left) ≡ Err BadCode
sum_bad s place left is some = ap (sums s) (cut_none place left is some)

pub sum_nothing : (s : PartialRecipe) (place : ℕ) (left : List ℕ) → length left ≡ 0 → sums s (split_codes_from place left) ≡ Ok (recipe_of s)
sum_nothing s place left none = ap (sums s) (cut_empty place left none)

pub sum_started : (s : PartialRecipe) (codes left : List ℕ) → s ≡ empty_recipe → left ≡ codes → sums s (split_codes_from (length codes - length left) left) ≡ recipe (split_codes codes)
unfolding recipe
sum_started s codes left e f =
    let none : length codes - length left ≡ 0 = omega (arith, ap length f) in
    ap (λ p. sums s (split_codes_from p left)) none ∙ ap (λ l. sums s (split_codes_from 0 l)) f ∙ ap (λ s. sums s (split_codes codes)) e

pub last_recipe : (x w : Result Recipe RecipeFault) (r : Recipe) (last s : PartialRecipe) → x ≡ w → x ≡ Ok (recipe_of s) → r ≡ recipe_of last → last ≡ s → Ok r ≡ w
last_recipe x w r last s to_do ends e f = ap Ok (e ∙ ap recipe_of f) ∙ sym ends ∙ to_do

pub pops_listed : (s : PartialRecipe) (code : UnwindCode) (xs ys : List ℕ) (t : Total) → effect code ≡ Pops xs → xs ≡ ys → sum_after s (Pops ys) ≡ t → sum_after s (effect code) ≡ t
pops_listed s code xs ys t is e h = ap (sum_after s) is ∙ ap (λ l. sum_after s (Pops l)) e ∙ h

pub moved_as : (s : PartialRecipe) (code : UnwindCode) (by : ℕ) (to : ℤ) (t : Total) → effect code ≡ Rises by → to ≡ s.vsp +ℤ pos by → unless_far (record s { vsp = to }) ≡ t → sum_after s (effect code) ≡ t
moved_as s code by to t is e h = ap (sum_after s) is ∙ ap (λ (v : ℤ). unless_far (record s { vsp = v })) (sym e) ∙ h

pub moved_less : (s : PartialRecipe) (code : UnwindCode) (by : ℕ) (to : ℤ) (t : Total) → effect code ≡ Falls by → to ≡ s.vsp -ℤ pos by → unless_far (record s { vsp = to }) ≡ t → sum_after s (effect code) ≡ t
moved_less s code by to t is e h = ap (sum_after s) is ∙ ap (λ (v : ℤ). unless_far (record s { vsp = v })) (sym e) ∙ h
