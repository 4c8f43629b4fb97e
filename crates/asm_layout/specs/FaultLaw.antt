-- Which of several refusals is reported: the one at the lowest line, there the one of lowest rank, and of equal ones
-- the first in the list (docs/rules/sources.md, "Refusals of statements").
use Rattle.std.specs.Prelude.{◌≡◌, ◌++◌, ◌∷◌, [], List, Some, None, not, true}
use Rattle.std.specs.List.{list_all}
use Rattle.asm_layout.specs.declared.fault.AsmFault.{AsmFault}
use Rattle.asm_layout.specs.Faults.{is_before, first_of_all}

-- a refusal comes before all in front of it in the list, and none after it comes before it
pub record StandsFirst (faults : List AsmFault) (first : AsmFault) : Type 0 where
  pub front : List AsmFault
  pub after : List AsmFault
  pub split : faults ≡ front ++ first ∷ after
  pub before : list_all (λ fault. is_before first fault) front ≡ true
  pub not_after : list_all (λ fault. not (is_before fault first)) after ≡ true

abbrev pub TheFirstIsAnswered : Type 0
TheFirstIsAnswered = (faults : List AsmFault) (first : AsmFault) → first_of_all None faults ≡ Some first → StandsFirst faults first

-- none is reported only if nothing is refused
abbrev pub NoneOnlyOfNone : Type 0
NoneOnlyOfNone = (faults : List AsmFault) → first_of_all None faults ≡ None → faults ≡ []
