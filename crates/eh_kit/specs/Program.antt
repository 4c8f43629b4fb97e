-- The functions of a generated program, and the random numbers that choose what they do.
use Rattle.std.specs.Prelude.{ℕ, zero, suc, ◌+◌, ◌*◌, ◌/◌, ◌%◌, ◌^◌, ◌==◌, nat_lt, List, ◌∷◌, map, if◌then◌else◌}
use Rattle.std.specs.List.{range_with_len}
use Rattle.eh_kit.specs.declared.program.FunctionName.{FunctionName}
use Rattle.eh_kit.specs.declared.program.FunctionName.TheVariants.{Main, Numbered, Boom}
use Rattle.eh_kit.specs.declared.program.FunctionKind.{FunctionKind}
use Rattle.eh_kit.specs.declared.program.FunctionKind.TheVariants.{Plain, Cleanup, CatchAll, CatchInt}
use Rattle.eh_kit.specs.declared.program.Caller.{Caller}
use Rattle.eh_kit.specs.declared.program.TheConstants.{MULTIPLIER, INCREMENT}

-- ---- the numbers: a linear congruential generator

abbrev pub next_number : ℕ → ℕ
next_number x = (x * MULTIPLIER + INCREMENT) % 2 ^ 32

-- the number of the program, and those drawn from it one by one
unfoldable pub random_number : ℕ → ℕ → ℕ
random_number number zero = number
random_number number (suc times) = next_number (random_number number times)

-- bits 17 and 16 of a number say what a function does
abbrev pub kind_numbered : ℕ → FunctionKind
kind_numbered n = if n == 0 then Plain else if n == 1 then Cleanup else if n == 2 then CatchAll else CatchInt

abbrev pub kind_of : ℕ → FunctionKind
kind_of x = kind_numbered (x / 2 ^ 16 % 4)

-- ---- the functions

-- each calls the next, and the last calls `boom`
abbrev pub callee_of : ℕ → ℕ → FunctionName
callee_of functions i = if nat_lt (i + 1) functions then Numbered (i + 1) else Boom

-- the function numbered i, for which the number i + 1 is drawn
abbrev pub nth_caller : ℕ → ℕ → ℕ → Caller
nth_caller number functions i = record { name = Numbered i; callee = callee_of functions i; kind = kind_of (random_number number (i + 1)) }

abbrev pub main_function : Caller
main_function = record { name = Main; callee = Numbered 0; kind = CatchAll }

-- all that call another one, in the order of the text
abbrev pub callers : ℕ → ℕ → List Caller
callers number functions = main_function ∷ map (nth_caller number functions) (range_with_len 0 functions)
