-- Laws on generated programs: their numbers, functions and lines.
use Rattle.std.specs.Prelude.{◌≡◌, ◌≢◌, ℕ, ◌+◌, ◌/◌, ◌%◌, ◌<◌, ◌≤◌, ◌&&◌, nat_le, Bool, true, List, [], ◌∷◌, ◌++◌, map, take, drop, AllPairs}
use Rattle.std.specs.List.{list_all}
use Rattle.std.specs.Str.Lines.{lines}
use Rattle.eh_kit.specs.declared.program.FunctionName.{FunctionName}
use Rattle.eh_kit.specs.declared.program.FunctionName.TheVariants.{Main, Numbered, Boom}
use Rattle.eh_kit.specs.declared.program.FunctionKind.{FunctionKind}
use Rattle.eh_kit.specs.declared.program.FunctionKind.TheVariants.{Cleanup, CatchAll, CatchInt}
use Rattle.eh_kit.specs.declared.program.Caller.{Caller}
use Rattle.eh_kit.specs.declared.program_text.TheConstants.{MAX_FUNCTIONS}
use Rattle.eh_kit.specs.Program.{random_number, kind_numbered, kind_of, callers}
use Rattle.eh_kit.specs.ProgramText.{name_text, generated_lines, generated_text}

-- ---- numbers

-- the result of the C standard's example of `rand` for its number
abbrev pub rand_of : ℕ → ℕ
rand_of x = x / 65536 % 32768

-- the numbers are the first results of that example after `srand(1)`, and what a function does is its result modulo 4
abbrev pub DrawnAsRand : Type 0
DrawnAsRand =
    (map (λ i. rand_of (random_number 1 i)) (1 ∷ 2 ∷ 3 ∷ 4 ∷ 5 ∷ 6 ∷ []) ≡ 16838 ∷ 5758 ∷ 10113 ∷ 17515 ∷ 31051 ∷ 5627 ∷ [])
    × ((x : ℕ) → kind_of x ≡ kind_numbered (rand_of x % 4))

-- ---- functions

abbrev pub caller : FunctionName → FunctionName → FunctionKind → Caller
caller name callee kind = record { name = name; callee = callee; kind = kind }

-- 16838, 5758, 10113 and 17515 are 2, 2, 1 and 3 modulo 4
abbrev pub FirstOfNumberOne : Type 0
FirstOfNumberOne =
    callers 1 4
    ≡ caller Main (Numbered 0) CatchAll
    ∷ caller (Numbered 0) (Numbered 1) CatchAll
    ∷ caller (Numbered 1) (Numbered 2) CatchAll
    ∷ caller (Numbered 2) (Numbered 3) Cleanup
    ∷ caller (Numbered 3) Boom CatchInt
    ∷ []

-- the names of a program's functions in the order of its text
abbrev pub function_names : ℕ → ℕ → List FunctionName
function_names number functions = map (λ (f : Caller). f.name) (callers number functions) ++ Boom ∷ []

-- the callees of all functions but the last are the names after the first
abbrev pub EachCallsTheNext : Type 0
EachCallsTheNext = (number functions : ℕ) → 0 < functions → map (λ (f : Caller). f.callee) (callers number functions) ≡ drop 1 (function_names number functions)

abbrev pub NamesDiffer : Type 0
NamesDiffer = (number functions : ℕ) → functions ≤ MAX_FUNCTIONS → AllPairs (λ a b. a ≢ b) (map name_text (function_names number functions))

-- a program with more functions of the same number begins with the same names, which do the same
abbrev pub LongerBeginsAlike : Type 0
LongerBeginsAlike =
    (number functions more : ℕ)
    → (take (functions + 1) (function_names number (functions + more)) ≡ take (functions + 1) (function_names number functions))
    × (take (functions + 1) (map (λ (f : Caller). f.kind) (callers number (functions + more))) ≡ map (λ (f : Caller). f.kind) (callers number functions))

-- ---- lines

abbrev pub is_printable : ℕ → Bool
is_printable b = nat_le 32 b && nat_le b 126

-- a line doesn't begin with a blank, and has only printable characters
abbrev pub is_plain : List ℕ → Bool
is_plain [] = true
is_plain (b ∷ more) = (nat_le 33 b && nat_le b 126) && list_all is_printable more

abbrev pub LinesArePlain : Type 0
LinesArePlain = (number functions : ℕ) → functions ≤ MAX_FUNCTIONS → list_all is_plain (generated_lines number functions) ≡ true

abbrev pub LinesAreRead : Type 0
LinesAreRead = (number functions : ℕ) → functions ≤ MAX_FUNCTIONS → lines (generated_text number functions) ≡ generated_lines number functions
