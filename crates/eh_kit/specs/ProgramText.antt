-- The source text of a generated program, line by line. The directives are those of an assembler for Arm; the handler data is
-- the exception handling ABI's (IHI 0038): one descriptor, whose range is the call.
use Rattle.std.specs.Prelude.{ℕ, List, [], ◌∷◌, ◌++◌, flat_map, codes, decimal}
use Rattle.eh_kit.specs.declared.program.FunctionName.{FunctionName}
use Rattle.eh_kit.specs.declared.program.FunctionName.TheVariants.{Main, Numbered, Boom}
use Rattle.eh_kit.specs.declared.program.FunctionKind.{FunctionKind}
use Rattle.eh_kit.specs.declared.program.FunctionKind.TheVariants.{Plain, Cleanup, CatchAll, CatchInt}
use Rattle.eh_kit.specs.declared.program.Caller.{Caller}
use Rattle.eh_kit.specs.Program.{callers}

-- each line ends in a line feed
abbrev pub line_text : List ℕ → List ℕ
line_text line = line ++ codes "\n"

abbrev pub lines_text : List (List ℕ) → List ℕ
lines_text lines = flat_map line_text lines

abbrev pub name_text : FunctionName → List ℕ
name_text Main = codes "main"
name_text (Numbered i) = codes "f" ++ decimal i
name_text Boom = codes "boom"

-- a function saves r4 and lr, calls another one and returns; its labels stand at the call and after it
unfoldable pub call_lines : FunctionName → FunctionName → List (List ℕ)
call_lines name callee =
    (codes ".type " ++ name_text name ++ codes ", %function")
    ∷ (name_text name ++ codes ": .fnstart")
    ∷ codes ".save {r4, lr}"
    ∷ codes "push {r4, lr}"
    ∷ (codes ".Lb" ++ name_text name ++ codes ": bl " ++ name_text callee)
    ∷ (codes ".Le" ++ name_text name ++ codes ": pop {r4, pc}")
    ∷ []

-- after a catch `main` returns 0, and any other function rethrows
abbrev pub after_catch : FunctionName → List (List ℕ)
after_catch Main = codes "movs r0, #0" ∷ codes "pop {r4, pc}" ∷ []
after_catch (Numbered i) = codes "bl boom" ∷ []
after_catch Boom = codes "bl boom" ∷ []

-- the pad of a catch
unfoldable pub caught_lines : FunctionName → List (List ℕ)
caught_lines name =
    (codes ".Lp" ++ name_text name ++ codes ": bl __cxa_begin_catch")
    ∷ codes "bl __cxa_end_catch"
    ∷ after_catch name

-- the pad of a cleanup
unfoldable pub cleanup_lines : FunctionName → List (List ℕ)
cleanup_lines name = (codes ".Lp" ++ name_text name ++ codes ": bl __cxa_end_cleanup") ∷ []

-- the descriptor of the call: its size with a mark in bit 0, its start, the landing pad, and what follows
unfoldable pub scope_lines : FunctionName → List ℕ → List ℕ → List (List ℕ)
scope_lines name mark what =
    codes ".personalityindex 0"
    ∷ codes ".handlerdata"
    ∷ (codes ".half .Le" ++ name_text name ++ codes "-.Lb" ++ name_text name ++ mark
    ++ codes ", .Lb" ++ name_text name ++ codes "-" ++ name_text name)
    ∷ (codes ".word .Lp" ++ name_text name ++ codes "(prel31), " ++ what)
    ∷ []

-- a cleanup's mark is even, and a 0 ends its list of descriptors; a catch's is odd, and the end follows its type
unfoldable pub pad_lines : FunctionName → FunctionKind → List (List ℕ)
pad_lines name Plain = []
pad_lines name Cleanup = cleanup_lines name ++ scope_lines name [] (codes "0")
pad_lines name CatchAll = caught_lines name ++ scope_lines name (codes "+1") (codes "0xFFFFFFFF, 0")
pad_lines name CatchInt = caught_lines name ++ scope_lines name (codes "+1") (codes "_ZTIi(target2), 0")

unfoldable pub caller_lines : Caller → List (List ℕ)
caller_lines f = call_lines f.name f.callee ++ pad_lines f.name f.kind ++ codes ".fnend" ∷ []

-- throws the `int` 7, with no destructor
abbrev pub boom_lines : List (List ℕ)
boom_lines =
    codes ".type boom, %function"
    ∷ codes "boom: .fnstart"
    ∷ codes ".save {r4, lr}"
    ∷ codes "push {r4, lr}"
    ∷ codes "movs r0, #4"
    ∷ codes "bl __cxa_allocate_exception"
    ∷ codes "movs r1, #7"
    ∷ codes "str r1, [r0]"
    ∷ codes "ldr r1, =_ZTIi"
    ∷ codes "movs r2, #0"
    ∷ codes "bl __cxa_throw"
    ∷ codes ".fnend"
    ∷ []

-- the lines of the program of this number with so many functions
abbrev pub generated_lines : ℕ → ℕ → List (List ℕ)
generated_lines number functions =
    codes ".global main" ∷ flat_map caller_lines (callers number functions) ++ boom_lines

unfoldable pub generated_text : ℕ → ℕ → List ℕ
generated_text number functions = lines_text (generated_lines number functions)
