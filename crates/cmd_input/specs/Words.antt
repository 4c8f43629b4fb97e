-- Which command the words form.
use Rattle.std.specs.Prelude.{ℕ, ◌+◌, ◌-◌, ◌*◌, ◌&&◌, ◌||◌, nat_eq, Bool, List, [], ◌∷◌, length, take, slice_index_or, codes, nat_le, if◌then◌else◌, Option, Some, None, is_some, option_map, not}
use Rattle.cmd_answers.specs.Words.{texts}
use Rattle.std.specs.List.{ends_with, list_all}
use Rattle.std.specs.Str.{bytes_eq}
use Rattle.std.specs.Char.{is_ascii_digit}
use Rattle.eh_kit.specs.declared.program_text.TheConstants.{MAX_FUNCTIONS}
use Rattle.cmd_input.specs.declared.words.TheConstants.{MOST_INSTRUCTIONS, MOST_SOURCES, MOST_DIGITS, MOST_NUMBER, MOST_FUNCTION_DIGITS, MOST_FRAME_DIGITS}
use Rattle.cmd_input.specs.declared.words.CommandForm.{CommandForm}
use Rattle.cmd_input.specs.declared.words.Task.{Task}
use Rattle.cmd_input.specs.declared.words.Task.TheVariants as task
use Rattle.cmd_input.specs.declared.words.Request.{Request}
use Rattle.cmd_input.specs.declared.words.CommandForm.TheVariants.{Flat, Build, Check, CheckSources as CheckOfSources, Run, RunSources as RunOfSources, Gnu, Threads, Generate}

-- a command and its operands
pub data Command : Type 0 where
  -- `flat FILE N`
  FlatFile : (name : List ℕ) (budget : ℕ) → Command
  -- `build FILE..` of sources
  BuildSources : (names : List (List ℕ)) → Command
  -- `check FILE` of one image
  CheckFile : (name : List ℕ) → Command
  -- `check FILE..` of sources
  CheckSources : (names : List (List ℕ)) → Command
  -- `run FILE N`, `walk FILE N` and `force FILE N K` of one image
  RunFile : (name : List ℕ) (request : Request) → Command
  -- `run FILE.. N`, `walk FILE.. N` and `force FILE.. N K` of sources
  RunSources : (names : List (List ℕ)) (request : Request) → Command
  -- `gnu FILE N`: the name of one image
  RunGnu : (name : List ℕ) (budget : ℕ) → Command
  -- `threads FILE.. SCHED N`: the names of a program's files, with the schedule's name last
  RunThreads : (names : List (List ℕ)) (budget : ℕ) → Command
  -- `gen K M`: the number of the generated program, and how many functions it shall have
  GenerateProgram : (number functions : ℕ) → Command

-- the command that a parsed form represents
abbrev pub command : CommandForm → Command
command (Flat name budget) = FlatFile name.now budget
command (Build names) = BuildSources (texts names.now)
command (Check name) = CheckFile name.now
command (CheckOfSources names) = CheckSources (texts names.now)
command (Run name request) = RunFile name.now request
command (RunOfSources names request) = RunSources (texts names.now) request
command (Gnu name budget) = RunGnu name.now budget
command (Threads names budget) = RunThreads (texts names.now) budget
command (Generate number functions) = GenerateProgram number functions

-- the number that n, followed by these digits, writes
abbrev pub digits_from : ℕ → List ℕ → Option ℕ
digits_from n [] = Some n
digits_from n (b ∷ bs) = if is_ascii_digit b then digits_from (n * 10 + (b - 48)) bs else None

-- decimal digits: at least one, and at most `most`
unfoldable pub number_of : ℕ → List ℕ → Option ℕ
number_of most bs = if nat_le 1 (length bs) && nat_le (length bs) most then digits_from 0 bs else None

abbrev pub if_between : ℕ → ℕ → Option ℕ → Option ℕ
if_between low high None = None
if_between low high (Some n) = if nat_le low n && nat_le n high then Some n else None

-- a budget: 1 to 1,000,000,000
unfoldable pub budget_of : List ℕ → Option ℕ
budget_of bs = if_between 1 MOST_INSTRUCTIONS (number_of MOST_DIGITS bs)

-- the words after `flat`: a name that is not empty, and a budget
unfoldable pub flat_command : List (List ℕ) → Option Command
flat_command [] = None
flat_command (name ∷ []) = None
flat_command (name ∷ number ∷ []) = if nat_le 1 (length name) then option_map (FlatFile name) (budget_of number) else None
flat_command (name ∷ number ∷ more ∷ rest) = None

-- the name of a source ends in `.s`
abbrev pub is_source : List ℕ → Bool
is_source name = ends_with nat_eq name (codes ".s")

-- 1 to 16 names of sources
unfoldable pub are_sources : List (List ℕ) → Bool
are_sources names = nat_le 1 (length names) && nat_le (length names) MOST_SOURCES && list_all is_source names

-- the words after `build`: names of sources
unfoldable pub build_command : List (List ℕ) → Option Command
build_command names = if are_sources names then Some (BuildSources names) else None

-- one name that isn't empty; a source's name is handled before
abbrev pub image_name : List (List ℕ) → Option (List ℕ)
image_name [] = None
image_name (name ∷ []) = if nat_le 1 (length name) then Some name else None
image_name (name ∷ more ∷ names) = None

-- the words after `check`: names of sources, or the name of an image
unfoldable pub check_command : List (List ℕ) → Option Command
check_command names = if are_sources names then Some (CheckSources names) else option_map CheckFile (image_name names)

-- names of sources, or the name of an image
unfoldable pub files_command : List (List ℕ) → Request → Option Command
files_command names request = if are_sources names then Some (RunSources names request) else option_map (λ name. RunFile name request) (image_name names)

abbrev pub with_budget : Task → List (List ℕ) → Option ℕ → Option Command
with_budget t names None = None
with_budget t names (Some budget) = files_command names (record { task = t; budget = budget })

-- the words after `run`, and after `walk`: names, and a budget as the last word
unfoldable pub run_command : Task → List (List ℕ) → Option Command
run_command t words =
    if nat_le 1 (length words) then with_budget t (take (length words - 1) words) (budget_of (slice_index_or words (length words - 1) [])) else None

-- a frame number: one to four digits
unfoldable pub frame_number : List ℕ → Option ℕ
frame_number bs = number_of MOST_FRAME_DIGITS bs

abbrev pub with_frame : List (List ℕ) → Option ℕ → Option Command
with_frame words None = None
with_frame words (Some number) = run_command (task.Force number) words

-- the words after `force`: as after `run`, with a frame number as the last word
unfoldable pub force_command : List (List ℕ) → Option Command
force_command words = if nat_le 1 (length words) then with_frame (take (length words - 1) words) (frame_number (slice_index_or words (length words - 1) [])) else None

-- the words after `gnu`: the name of an image, and a budget
unfoldable pub gnu_command : List (List ℕ) → Option Command
gnu_command [] = None
gnu_command (name ∷ []) = None
gnu_command (name ∷ number ∷ []) = if nat_le 1 (length name) && not (is_source name) then option_map (RunGnu name) (budget_of number) else None
gnu_command (name ∷ number ∷ more ∷ rest) = None

-- the name of a schedule ends in `.sched`
abbrev pub is_schedule : List ℕ → Bool
is_schedule name = ends_with nat_eq name (codes ".sched")

-- names of a program's files: of sources, or of one image
unfoldable pub are_program : List (List ℕ) → Bool
are_program names = are_sources names || is_some (image_name names)

-- names of a program's files, with the name of a schedule last
unfoldable pub thread_files : List (List ℕ) → ℕ → Option Command
thread_files names budget =
    if nat_le 1 (length names) && is_schedule (slice_index_or names (length names - 1) []) && are_program (take (length names - 1) names) then Some (RunThreads names budget) else None

abbrev pub with_elements : List (List ℕ) → Option ℕ → Option Command
with_elements names None = None
with_elements names (Some budget) = thread_files names budget

-- the words after `threads`: names, and last how many elements may be done
unfoldable pub threads_command : List (List ℕ) → Option Command
threads_command words = if nat_le 1 (length words) then with_elements (take (length words - 1) words) (budget_of (slice_index_or words (length words - 1) [])) else None

-- the number of a generated program: at most 4,294,967,295
unfoldable pub program_number : List ℕ → Option ℕ
program_number bs = if_between 0 MOST_NUMBER (number_of MOST_DIGITS bs)

-- the number of functions of a generated program: 1 to 4,000, in at most four digits
unfoldable pub program_functions : List ℕ → Option ℕ
program_functions bs = if_between 1 MAX_FUNCTIONS (number_of MOST_FUNCTION_DIGITS bs)

abbrev pub program_of : Option ℕ → Option ℕ → Option Command
program_of None functions = None
program_of (Some number) functions = option_map (GenerateProgram number) functions

-- the words after `gen`: the number of a generated program, and its number of functions
unfoldable pub gen_command : List (List ℕ) → Option Command
gen_command [] = None
gen_command (number ∷ []) = None
gen_command (number ∷ functions ∷ []) = program_of (program_number number) (program_functions functions)
gen_command (number ∷ functions ∷ more ∷ rest) = None

unfoldable pub command_of : List (List ℕ) → Option Command
command_of [] = None
command_of (word ∷ rest) =
    if bytes_eq word (codes "flat") then flat_command rest
    else (if bytes_eq word (codes "build") then build_command rest
    else (if bytes_eq word (codes "check") then check_command rest
    else (if bytes_eq word (codes "run") then run_command task.Run rest
    else (if bytes_eq word (codes "gen") then gen_command rest
    else (if bytes_eq word (codes "walk") then run_command task.Walk rest
    else (if bytes_eq word (codes "force") then force_command rest
    else (if bytes_eq word (codes "gnu") then gnu_command rest
    else (if bytes_eq word (codes "threads") then threads_command rest else None))))))))
