-- The refusals of statements, and which of them is reported (docs/rules/sources.md).
use Rattle.std.specs.Prelude.{ℕ, ◌==◌, ◌&&◌, ◌||◌, Bool, nat_lt, if◌then◌else◌, List, [], ◌∷◌, Option, Some, None}
use Rattle.asm_layout.specs.declared.fault.AsmFault.{AsmFault}
use Rattle.asm_layout.specs.declared.fault.AsmWhat.{AsmWhat}
use Rattle.asm_layout.specs.declared.fault.AsmWhat.TheVariants.{DuplicateLabel, UndefinedLocal, Encode, PoolTooFar, SectionTooLarge, Unwind, Placement, OutOfMemory}

abbrev pub fault_at : ℕ → AsmWhat → AsmFault
fault_at line what = record { line = line; what = what }

-- if memory runs out, there is no line
abbrev pub out_of_memory : AsmFault
out_of_memory = fault_at 0 OutOfMemory

abbrev pub number_of : AsmWhat → ℕ
number_of DuplicateLabel = 1
number_of UndefinedLocal = 2
number_of (Encode _) = 3
number_of PoolTooFar = 4
number_of SectionTooLarge = 5
number_of (Unwind _) = 6
number_of Placement = 7
number_of OutOfMemory = 8

-- at a lower line, or at the same line with a lower number
abbrev pub is_before : AsmFault → AsmFault → Bool
is_before fault other =
    nat_lt fault.line other.line || ((fault.line == other.line) && nat_lt (number_of fault.what) (number_of other.what))

-- the first of the refusals so far and one more
abbrev pub first_with : Option AsmFault → AsmFault → Option AsmFault
first_with None fault = Some fault
first_with (Some first) fault = if is_before fault first then Some fault else Some first

abbrev pub first_of : Option AsmFault → Option AsmFault → Option AsmFault
first_of so_far None = so_far
first_of so_far (Some fault) = first_with so_far fault

-- a refusal at a line, if it holds
abbrev pub fault_if : Bool → ℕ → AsmWhat → List AsmFault
fault_if refused line what = if refused then fault_at line what ∷ [] else []

-- the first of a list of refusals: none comes before it, and of equal ones it is the first in the list
unfoldable pub first_of_all : Option AsmFault → List AsmFault → Option AsmFault
first_of_all so_far [] = so_far
first_of_all so_far (fault ∷ more) = first_of_all (first_with so_far fault) more
