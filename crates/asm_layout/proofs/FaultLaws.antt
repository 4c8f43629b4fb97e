-- Laws of the order of refusals: lists of them may be taken one after the other, or each by itself.
use Rattle.std.specs.Prelude.{◌≡◌, ◌++◌, List, [], ◌∷◌, Option, Some, None}
use Rattle.std.proofs.Common.{refl, ap, arith, ◌∙◌, sym}
use Rattle.std.proofs.lemmas.Bool.Decides.{nat_tests}
use Rattle.asm_layout.specs.declared.fault.AsmFault.{AsmFault}
use Rattle.asm_layout.specs.Faults.{first_with, first_of, first_of_all}

-- lists one after the other
pub first_after : (so_far : Option AsmFault) (faults more : List AsmFault) → first_of_all so_far (faults ++ more) ≡ first_of_all (first_of_all so_far faults) more
unfolding first_of_all
first_after so_far [] more = refl
first_after so_far (fault ∷ faults) more = first_after (first_with so_far fault) faults more

-- of three refusals, two of which are compared first
regrouped : (so_far : Option AsmFault) (fault : AsmFault) (more : Option AsmFault) → first_of (first_with so_far fault) more ≡ first_of so_far (first_of (Some fault) more)
regrouped so_far fault more = grind (arith, nat_tests)

-- a list by itself
pub first_by_itself : (so_far : Option AsmFault) (faults : List AsmFault) → first_of_all so_far faults ≡ first_of so_far (first_of_all None faults)
unfolding first_of_all
first_by_itself so_far [] = refl
first_by_itself so_far (fault ∷ more) =
    first_by_itself (first_with so_far fault) more
    ∙ regrouped so_far fault (first_of_all None more)
    ∙ sym (ap (first_of so_far) (first_by_itself (Some fault) more))
