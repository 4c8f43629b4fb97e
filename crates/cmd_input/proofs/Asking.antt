-- What the words of a command ask for is within its bounds.
use Rattle.std.specs.Prelude.{◌<◌, ◌&&◌, nat_le, if◌then◌else◌, option_map, codes}
use Rattle.std.specs.Str.{bytes_eq}
use Rattle.std.proofs.Common.{◌≡◌, ◌≤◌, ℕ, List, [], ◌∷◌, Option, Some, None, Bool, true, false, IfSome, refl, sym, subst, leb-true, arith}
use Rattle.eh_kit.specs.declared.program_text.TheConstants.{MAX_FUNCTIONS}
use Rattle.cmd_input.specs.Words.{Command, FlatFile, BuildSources, CheckFile, CheckSources, RunFile, RunSources, RunGnu, RunThreads, GenerateProgram, if_between, number_of, budget_of, program_number, program_functions, program_of, flat_command, are_sources, build_command, image_name, check_command, files_command, with_budget, run_command, with_frame, force_command, thread_files, gnu_command, with_elements, threads_command, gen_command, command_of}
use Rattle.cmd_input.specs.declared.words.Request.{Request}
use Rattle.cmd_input.specs.declared.words.Task.{Task}
use Rattle.cmd_input.specs.declared.words.Task.TheVariants as task
use Rattle.cmd_input.specs.declared.words.TheConstants.{MOST_FUNCTION_DIGITS}

pub record AreAsked (functions : ℕ) : Type 0 where
  pub some : 0 < functions
  pub most : functions ≤ MAX_FUNCTIONS

-- a program is asked for 1 to 4,000 functions
abbrev pub IsAsked : Option Command → Type 0
IsAsked None = Unit {0}
IsAsked (Some (FlatFile name budget)) = Unit {0}
IsAsked (Some (BuildSources names)) = Unit {0}
IsAsked (Some (CheckFile name)) = Unit {0}
IsAsked (Some (CheckSources names)) = Unit {0}
IsAsked (Some (RunFile name request)) = Unit {0}
IsAsked (Some (RunSources names request)) = Unit {0}
IsAsked (Some (RunGnu name budget)) = Unit {0}
IsAsked (Some (RunThreads names budget)) = Unit {0}
IsAsked (Some (GenerateProgram number functions)) = AreAsked functions

either : (b : Bool) (x y : Option Command) → IsAsked x → IsAsked y → IsAsked (if b then x else y)
either true x y p q = p
either false x y p q = q

mapped : {A : Type 0} (f : A → Command) (o : Option A) → IfSome o (λ a. IsAsked (Some (f a))) → IsAsked (option_map f o)
mapped f None p = tt
mapped f (Some a) p = p

all_some : {A : Type 0} (P : A → Type 0) (o : Option A) → ((a : A) → P a) → IfSome o P
all_some P None p = tt
all_some P (Some a) p = p a

flat_asked : (words : List (List ℕ)) → IsAsked (flat_command words)
unfolding flat_command
flat_asked [] = tt
flat_asked (name ∷ []) = tt
flat_asked (name ∷ number ∷ []) = either _ _ None (mapped (FlatFile name) (budget_of number) (all_some _ (budget_of number) (λ _. tt))) tt
flat_asked (name ∷ number ∷ more ∷ rest) = tt

build_asked : (words : List (List ℕ)) → IsAsked (build_command words)
unfolding build_command
build_asked words = either (are_sources words) (Some (BuildSources words)) None tt tt

check_asked : (words : List (List ℕ)) → IsAsked (check_command words)
unfolding check_command
check_asked words = either (are_sources words) (Some (CheckSources words)) _ tt (mapped CheckFile (image_name words) (all_some _ (image_name words) (λ _. tt)))

files_asked : (names : List (List ℕ)) (request : Request) → IsAsked (files_command names request)
unfolding files_command
files_asked names request =
    either (are_sources names) (Some (RunSources names request)) _ tt (mapped (λ name. RunFile name request) (image_name names) (all_some _ (image_name names) (λ _. tt)))

with_asked : (t : Task) (names : List (List ℕ)) (budget : Option ℕ) → IsAsked (with_budget t names budget)
with_asked t names None = tt
with_asked t names (Some budget) = files_asked names (record { task = t; budget = budget })

run_asked : (t : Task) (words : List (List ℕ)) → IsAsked (run_command t words)
unfolding run_command
run_asked t words = either _ (with_budget t _ _) None (with_asked t _ _) tt

frame_asked : (words : List (List ℕ)) (number : Option ℕ) → IsAsked (with_frame words number)
frame_asked words None = tt
frame_asked words (Some number) = run_asked (task.Force number) words

force_asked : (words : List (List ℕ)) → IsAsked (force_command words)
unfolding force_command
force_asked words = either _ (with_frame _ _) None (frame_asked _ _) tt

gnu_asked : (words : List (List ℕ)) → IsAsked (gnu_command words)
unfolding gnu_command
gnu_asked [] = tt
gnu_asked (name ∷ []) = tt
gnu_asked (name ∷ number ∷ []) = either _ _ None (mapped (RunGnu name) (budget_of number) (all_some _ (budget_of number) (λ _. tt))) tt
gnu_asked (name ∷ number ∷ more ∷ rest) = tt

thread_files_asked : (names : List (List ℕ)) (budget : ℕ) → IsAsked (thread_files names budget)
unfolding thread_files
thread_files_asked names budget = either _ (Some (RunThreads names budget)) None tt tt

elements_asked : (names : List (List ℕ)) (budget : Option ℕ) → IsAsked (with_elements names budget)
elements_asked names None = tt
elements_asked names (Some budget) = thread_files_asked names budget

threads_asked : (words : List (List ℕ)) → IsAsked (threads_command words)
unfolding threads_command
threads_asked words = either _ (with_elements _ _) None (elements_asked _ _) tt

between : (low high n : ℕ) → IfSome (if_between low high (Some n)) (λ n. (low ≤ n) × (n ≤ high))
between low high n = go (nat_le low n) (nat_le n high) refl refl
  where
    go : (above below : Bool) → nat_le low n ≡ above → nat_le n high ≡ below → IfSome (if above && below then Some n else None) (λ n. (low ≤ n) × (n ≤ high))
    go true true e f = (leb-true low n e, leb-true n high f)
    go true false e f = tt
    go false below e f = tt

within : (low high : ℕ) (o : Option ℕ) → IfSome (if_between low high o) (λ n. (low ≤ n) × (n ≤ high))
within low high None = tt
within low high (Some n) = between low high n

functions_asked : (words : List ℕ) → IfSome (program_functions words) (λ functions. AreAsked functions)
unfolding program_functions
functions_asked words = go (if_between 1 MAX_FUNCTIONS (number_of MOST_FUNCTION_DIGITS words)) (within 1 MAX_FUNCTIONS (number_of MOST_FUNCTION_DIGITS words))
  where
    go : (o : Option ℕ) → IfSome o (λ n. (1 ≤ n) × (n ≤ MAX_FUNCTIONS)) → IfSome o (λ functions. AreAsked functions)
    go None p = tt
    go (Some n) p = record { some = omega (arith, p.0); most = p.1 }

program_asked : (number : Option ℕ) (functions : List ℕ) → IsAsked (program_of number (program_functions functions))
program_asked None functions = tt
program_asked (Some number) functions = mapped (GenerateProgram number) (program_functions functions) (functions_asked functions)

gen_asked : (words : List (List ℕ)) → IsAsked (gen_command words)
unfolding gen_command
gen_asked [] = tt
gen_asked (number ∷ []) = tt
gen_asked (number ∷ functions ∷ []) = program_asked (program_number number) functions
gen_asked (number ∷ functions ∷ more ∷ rest) = tt

-- the command by the first word, from one of the names on
abbrev by_threads : List ℕ → List (List ℕ) → Option Command
by_threads word rest = if bytes_eq word (codes "threads") then threads_command rest else None

abbrev by_gnu : List ℕ → List (List ℕ) → Option Command
by_gnu word rest = if bytes_eq word (codes "gnu") then gnu_command rest else by_threads word rest

abbrev by_force : List ℕ → List (List ℕ) → Option Command
by_force word rest = if bytes_eq word (codes "force") then force_command rest else by_gnu word rest

abbrev by_walk : List ℕ → List (List ℕ) → Option Command
by_walk word rest = if bytes_eq word (codes "walk") then run_command task.Walk rest else by_force word rest

abbrev by_gen : List ℕ → List (List ℕ) → Option Command
by_gen word rest = if bytes_eq word (codes "gen") then gen_command rest else by_walk word rest

abbrev by_run : List ℕ → List (List ℕ) → Option Command
by_run word rest = if bytes_eq word (codes "run") then run_command task.Run rest else by_gen word rest

abbrev by_check : List ℕ → List (List ℕ) → Option Command
by_check word rest = if bytes_eq word (codes "check") then check_command rest else by_run word rest

abbrev by_build : List ℕ → List (List ℕ) → Option Command
by_build word rest = if bytes_eq word (codes "build") then build_command rest else by_check word rest

pub asked : (words : List (List ℕ)) → IsAsked (command_of words)
unfolding command_of
asked [] = tt
asked (word ∷ rest) =
    let threads = either (bytes_eq word (codes "threads")) (threads_command rest) None (threads_asked rest) tt in
    let gnu = either (bytes_eq word (codes "gnu")) (gnu_command rest) (by_threads word rest) (gnu_asked rest) threads in
    let force = either (bytes_eq word (codes "force")) (force_command rest) (by_gnu word rest) (force_asked rest) gnu in
    let walk = either (bytes_eq word (codes "walk")) (run_command task.Walk rest) (by_force word rest) (run_asked task.Walk rest) force in
    let gen = either (bytes_eq word (codes "gen")) (gen_command rest) (by_walk word rest) (gen_asked rest) walk in
    let run = either (bytes_eq word (codes "run")) (run_command task.Run rest) (by_gen word rest) (run_asked task.Run rest) gen in
    let check = either (bytes_eq word (codes "check")) (check_command rest) (by_run word rest) (check_asked rest) run in
    let build = either (bytes_eq word (codes "build")) (build_command rest) (by_check word rest) (build_asked rest) check in
    either (bytes_eq word (codes "flat")) (flat_command rest) (by_build word rest) (flat_asked rest) build

-- .. as the form of words says it
pub asked_of : (words : List (List ℕ)) (number functions : ℕ) → Some (GenerateProgram number functions) ≡ command_of words → AreAsked functions
asked_of words number functions e = subst IsAsked (sym e) (asked words)
