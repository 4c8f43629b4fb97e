-- Which files a call asks for (docs/rules/memory.md): those of the names that it is given, in order, each once.
use Rattle.std.specs.Prelude.{ℕ, ◌+◌, ◌≡◌, ◌≤◌, ◌⊎◌, List, [], ◌∷◌, length, take, Option, Some, None, IfSome, Result, Ok, Err}
use Rattle.std.specs.List.{fold}
use Rattle.eh_port.specs.FileList.{answer_of}
use Rattle.eh_port.specs.declared.files.FileAnswer.{FileAnswer}
use Rattle.eh_port.specs.declared.files.FileAnswer.TheVariants.{Found, Missing, TooLong}
use Rattle.cmd_input.specs.Building.{refusal_of}
use Rattle.cmd_input.specs.Words.{Command, FlatFile, BuildSources, CheckFile, CheckSources, RunFile, RunSources, RunGnu, RunThreads, GenerateProgram}
use Rattle.cmd_answers.specs.Files.{FileState}
use Rattle.cmd_input.specs.declared.refusal.FilesFault.{FilesFault}
use Rattle.cmd_input.specs.declared.sources.LoadedFiles.{LoadedFiles}
use Rattle.cmd_input.specs.declared.sources.LoadedFiles.TheVariants.{All, Lacks, Exceeds}
use Rattle.cmd_input.specs.declared.sources.TheConstants.{FILE_LIMIT}
use Rattle.cmd_answers.specs.declared.status.TheConstants.{FILE_UNAVAILABLE}
use Rattle.cmd_answers.specs.declared.stop.Stop.{Stop}

-- the files that a command names
abbrev pub command_files : Option Command → List (List ℕ)
command_files None = []
command_files (Some (FlatFile name budget)) = name ∷ []
command_files (Some (BuildSources names)) = names
command_files (Some (CheckFile name)) = name ∷ []
command_files (Some (CheckSources names)) = names
command_files (Some (RunFile name request)) = name ∷ []
command_files (Some (RunSources names request)) = names
command_files (Some (RunGnu name budget)) = name ∷ []
command_files (Some (RunThreads names budget)) = names
command_files (Some (GenerateProgram number functions)) = []

-- a file and, if it is there, what comes after it
abbrev pub and_after : FileAnswer → ℕ → ℕ
and_after (Found bytes) after = 1 + after
and_after Missing after = 1
and_after TooLong after = 1

-- the number of names up to the first whose file is missing or too long, including that one; all names if there is none
abbrev pub up_to_unavailable : List (List ℕ × List ℕ) → List (List ℕ) → ℕ
up_to_unavailable held [] = 0
up_to_unavailable held (name ∷ names) = and_after (answer_of held name FILE_LIMIT) (up_to_unavailable held names)

-- A call asked for the files of the first `count` of these names, in order, each once, and for no other. It never asks for one after the
-- first that is missing or too long. If no read failed and there was memory, it asked for all up to that one.
pub record AsksFor (names : List (List ℕ)) (ended lacks : Type 0) (files files' : FileState) : Type 0 where
  pub count : ℕ
  pub within : count ≤ length names
  pub is : files'.asked ≡ fold files.with_name files.asked (take count names)
  pub told : IfSome files.held (λ held. count ≤ up_to_unavailable held names)
  pub whole : ended → IfSome files.held (λ held. count ≡ up_to_unavailable held names)
  -- .. so for all, if none is missing or too long
  pub all : ended → lacks ⊎ (count ≡ length names)

-- the files that were read one after the other, of which the last is missing or too long
abbrev pub LoadedLacks : Result LoadedFiles Stop → Type 0
LoadedLacks (Ok (All sources)) = ⊥
LoadedLacks (Ok (Lacks name)) = Unit {0}
LoadedLacks (Ok (Exceeds name)) = Unit {0}
LoadedLacks (Err stop) = ⊥

-- a file that was asked for is missing or too long
abbrev pub FindingLacks : {T : Type 0} → Result (Result T FilesFault) Stop → Type 0
FindingLacks (Ok (Ok found)) = ⊥
FindingLacks (Ok (Err fault)) = (refusal_of fault).status ≡ FILE_UNAVAILABLE
FindingLacks (Err stop) = ⊥

-- the status says that a file is missing or too long
abbrev pub CallLacks : Result ℕ Stop → Type 0
CallLacks (Ok status) = status ≡ FILE_UNAVAILABLE
CallLacks (Err stop) = ⊥
