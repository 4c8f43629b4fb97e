-- Which words form which command, in letters and digits (docs/guide/command-line.md, "Words").
use Rattle.std.specs.Prelude.{◌≡◌, ◌↔◌, ◌⊎◌, ℕ, ◌+◌, ◌*◌, ◌^◌, ◌≤◌, List, [], ◌∷◌, ◌++◌, length, codes, Some, None}
use Rattle.cmd_input.specs.Words.{Command, FlatFile, BuildSources, CheckFile, CheckSources, RunFile, RunSources, RunGnu, RunThreads, GenerateProgram, command_of}
use Rattle.cmd_input.specs.declared.words.Task.{Task}
use Rattle.cmd_input.specs.declared.words.Task.TheVariants.{Run, Walk, Force}

-- ---- numbers

-- decimal digits write a number, the highest first: each byte is 48 plus its digit, which counts by its place
abbrev pub Writes : List ℕ → ℕ → Type 0
Writes [] n = n ≡ 0
Writes (byte ∷ more) n = (digit : ℕ) × (rest : ℕ) × (byte ≡ 48 + digit) × (digit ≤ 9) × Writes more rest × (n ≡ digit * 10 ^ length more + rest)

-- a word is a number: one digit to `most`, zeros in front included, and nothing else
pub record IsNumber (most : ℕ) (word : List ℕ) (n : ℕ) : Type 0 where
  pub some : 1 ≤ length word
  pub few : length word ≤ most
  pub writes : Writes word n

-- a budget
pub record IsBudget (word : List ℕ) (n : ℕ) : Type 0 where
  pub number : IsNumber 10 word n
  pub least : 1 ≤ n
  pub most : n ≤ 1000000000

-- ---- names

-- the name of a source ends in `.s`
abbrev pub IsSource : List ℕ → Type 0
IsSource name = (stem : List ℕ) × (name ≡ stem ++ codes ".s")

abbrev pub AllAreSources : List (List ℕ) → Type 0
AllAreSources [] = Unit {0}
AllAreSources (name ∷ more) = IsSource name × AllAreSources more

-- 1 to 16 sources
pub record AreSources (names : List (List ℕ)) : Type 0 where
  pub some : 1 ≤ length names
  pub few : length names ≤ 16
  pub all : AllAreSources names

-- the name of an image isn't empty, and isn't a source's
pub record IsImage (name : List ℕ) : Type 0 where
  pub some : 1 ≤ length name
  pub no_source : IsSource name → ⊥

-- a program's files: sources, or one image
abbrev pub AreProgram : List (List ℕ) → Type 0
AreProgram names = AreSources names ⊎ ((name : List ℕ) × (names ≡ name ∷ []) × IsImage name)

-- the name of a schedule ends in `.sched`
abbrev pub IsSchedule : List ℕ → Type 0
IsSchedule name = (stem : List ℕ) × (name ≡ stem ++ codes ".sched")

-- ---- commands

-- the commands that run a program: the word, the files, how many instructions may run, and for `force` the number of a frame
abbrev pub AreRunWords : Task → ℕ → List (List ℕ) → List (List ℕ) → Type 0
AreRunWords Run budget files words = (number : List ℕ) × (words ≡ codes "run" ∷ (files ++ number ∷ [])) × IsBudget number budget
AreRunWords Walk budget files words = (number : List ℕ) × (words ≡ codes "walk" ∷ (files ++ number ∷ [])) × IsBudget number budget
AreRunWords (Force frame) budget files words =
    (number : List ℕ) × (last : List ℕ) × (words ≡ codes "force" ∷ (files ++ number ∷ last ∷ [])) × IsBudget number budget × IsNumber 4 last frame

abbrev pub AreWordsOf : Command → List (List ℕ) → Type 0
AreWordsOf (FlatFile name budget) words = (number : List ℕ) × (words ≡ codes "flat" ∷ name ∷ number ∷ []) × (1 ≤ length name) × IsBudget number budget
AreWordsOf (BuildSources names) words = (words ≡ codes "build" ∷ names) × AreSources names
AreWordsOf (CheckFile name) words = (words ≡ codes "check" ∷ name ∷ []) × IsImage name
AreWordsOf (CheckSources names) words = (words ≡ codes "check" ∷ names) × AreSources names
AreWordsOf (RunFile name request) words = AreRunWords request.task request.budget (name ∷ []) words × IsImage name
AreWordsOf (RunSources names request) words = AreRunWords request.task request.budget names words × AreSources names
AreWordsOf (RunGnu name budget) words = (number : List ℕ) × (words ≡ codes "gnu" ∷ name ∷ number ∷ []) × IsImage name × IsBudget number budget
AreWordsOf (RunThreads names budget) words =
    (files : List (List ℕ)) × (schedule : List ℕ) × (number : List ℕ) × (names ≡ files ++ schedule ∷ [])
    × (words ≡ codes "threads" ∷ (files ++ schedule ∷ number ∷ [])) × AreProgram files × IsSchedule schedule × IsBudget number budget
AreWordsOf (GenerateProgram number functions) words =
    (first : List ℕ) × (second : List ℕ) × (words ≡ codes "gen" ∷ first ∷ second ∷ []) × IsNumber 10 first number × (number ≤ 4294967295)
    × IsNumber 4 second functions × (1 ≤ functions) × (functions ≤ 4000)

-- words form a command exactly if they have its form, and none if they have no form
pub record WordsAreCommands : Type 0 where
  pub is : (words : List (List ℕ)) (command : Command) → (command_of words ≡ Some command) ↔ AreWordsOf command words
  pub none : (words : List (List ℕ)) → (command_of words ≡ None) ↔ ((command : Command) → AreWordsOf command words → ⊥)
