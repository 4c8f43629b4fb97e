-- The refusal that is answered stands first among all.
use Rattle.std.specs.Prelude.{◌≡◌, ◌⊎◌, not, true, false, List, [], ◌∷◌, Some, None}
use Rattle.std.specs.List.{list_all}
use Rattle.std.proofs.Common.{refl, ap, arith, ◌∙◌, sym, inl, inr}
use Rattle.std.proofs.lemmas.Bool.{and_from, cond_both}
use Rattle.std.proofs.lemmas.Bool.Decides.{nat_tests}
use Rattle.asm_layout.specs.declared.fault.AsmFault.{AsmFault}
use Rattle.asm_layout.specs.Faults.{is_before, first_of_all}
use Rattle.asm_layout.specs.FaultLaw.{StandsFirst, TheFirstIsAnswered, NoneOnlyOfNone}

-- the first so far stays, or one of the list comes before it and stands first there
abbrev Found : AsmFault → List AsmFault → AsmFault → Type 0
Found so_far faults first =
    ((first ≡ so_far) × (list_all (λ fault. not (is_before fault so_far)) faults ≡ true))
    ⊎ ((is_before first so_far ≡ true) × StandsFirst faults first)

module _ (fault : AsmFault) (more : List AsmFault) (first : AsmFault) where
  further : is_before first fault ≡ true → StandsFirst more first → StandsFirst (fault ∷ more) first
  further b g = record {
    front = fault ∷ g.front;
    after = g.after;
    split = ap (λ l. fault ∷ l) g.split;
    before = and_from _ _ b g.before;
    not_after = g.not_after;
  }

  stands : Found fault more first → StandsFirst (fault ∷ more) first
  stands (inl s) = record {
    front = [];
    after = more;
    split = ap (λ f. f ∷ more) (sym s.0);
    before = refl;
    not_after = ap (λ f. list_all (λ other. not (is_before other f)) more) s.0 ∙ s.1;
  }
  stands (inr g) = further g.0 g.1

  earlier : (so_far : AsmFault) → is_before fault so_far ≡ true → Found fault more first → is_before first so_far ≡ true
  earlier so_far b (inl s) = ap (λ f. is_before f so_far) s.0 ∙ b
  earlier so_far b (inr g) = grind (arith, nat_tests)

  kept : (so_far : AsmFault) → is_before fault so_far ≡ false → Found so_far more first → Found so_far (fault ∷ more) first
  kept so_far b (inl s) = inl (s.0, and_from _ _ (ap not b) s.1)
  kept so_far b (inr g) = inr (g.0, further (grind (arith, nat_tests)) g.1)

found : (so_far : AsmFault) (faults : List AsmFault) (first : AsmFault) → first_of_all (Some so_far) faults ≡ Some first → Found so_far faults first
unfolding first_of_all
found so_far [] first e = inl (cc, refl)
found so_far (fault ∷ more) first e =
    cond_both (is_before fault so_far) (Some fault) (Some so_far) (λ o. first_of_all o more ≡ Some first → Found so_far (fault ∷ more) first)
    (λ b f. let g = found fault more first f in inr (earlier fault more first so_far b g, stands fault more first g))
    (λ b f. kept fault more first so_far b (found so_far more first f)) e

pub law_of_first : TheFirstIsAnswered
unfolding first_of_all
law_of_first [] first e = absurd (cc)
law_of_first (fault ∷ more) first e = stands fault more first (found fault more first e)

pub some_stays : (first : AsmFault) (faults : List AsmFault) → first_of_all (Some first) faults ≡ None → ⊥
unfolding first_of_all
some_stays first [] e = cc
some_stays first (fault ∷ more) e =
    cond_both (is_before fault first) (Some fault) (Some first) (λ o. first_of_all o more ≡ None → ⊥) (λ b. some_stays fault more) (λ b. some_stays first more) e

pub law_of_none : NoneOnlyOfNone
unfolding first_of_all
law_of_none [] e = refl
law_of_none (fault ∷ more) e = absurd (some_stays fault more e)
