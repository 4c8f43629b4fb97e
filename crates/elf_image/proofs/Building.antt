-- What is known where an image is put together.
use Rattle.std.proofs.Common.{◌≡◌, ℕ, ◌-◌, ◌%◌, ◌≤◌, Bool, true, false, not, ◌&&◌, cond, nat_eq, List, [], ◌∷◌, Option, Some, None, refl, arith}
use Rattle.std.proofs.lemmas.Bool.Decides.{nat_tests}
use Rattle.std.specs.List.{list_any}
use Rattle.elf_image.specs.Format.{missing, first_of}
use Rattle.elf_image.specs.Symbols.{tables_refusal}
use Rattle.elf_image.specs.Functions.{Function}
use Rattle.elf_image.specs.Image.{entry_refusal}
use Rattle.elf_image.specs.declared.fault.ImageFault.{ImageFault}
use Rattle.elf_image.specs.declared.fault.ImageFault.TheVariants.{Entry}
use Rattle.elf_image.specs.declared.format.SectionHeader.{SectionHeader}

odd_step : (b c : Bool) (fault : ImageFault) → cond (not (b && c)) (Some fault) None ≡ None → b ≡ true
odd_step true c fault h = refl
odd_step false c fault h = absurd cc

-- an entry field that is accepted isn't 0
pub entry_above : (field : ℕ) (functions : List Function) → entry_refusal field functions ≡ None → 1 ≤ field
unfolding entry_refusal
entry_above field functions h =
    let odd = odd_step (nat_eq (field % 2) 1) (list_any (λ f. nat_eq f.start (field - 1)) functions) Entry h in
    grind (arith, nat_tests)

both_none : (o p : Option ImageFault) → first_of (o ∷ p ∷ []) ≡ None → (o ≡ None) × (p ≡ None)
both_none None None h = (refl, refl)
both_none None (Some f) h = absurd cc
both_none (Some f) p h = absurd cc

-- the tables that are accepted are there
pub tables_there : (bytes : List ℕ) (tables : SectionHeader × SectionHeader) → tables_refusal bytes (Some tables) ≡ None
    → (missing bytes tables.0.offset tables.0.size ≡ None) × (missing bytes tables.1.offset tables.1.size ≡ None)
unfolding tables_refusal
tables_there bytes tables h = both_none (missing bytes tables.0.offset tables.0.size) (missing bytes tables.1.offset tables.1.size) h

pub ruleset building = (entry_above)
