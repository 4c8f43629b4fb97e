-- What a call of the program returns, by the numbers of its statuses (docs/guide/command-line.md, "Statuses").
use Rattle.std.specs.Prelude.{◌≡◌, ◌≢◌, ℕ, List, Option, Some, None}
use Rattle.std.specs.Io.KnownBytes.{Appends}
use Rattle.cmd_top.specs.Answered.{IsAnswer}
use Rattle.cmd_input.specs.Loading.{Report}
use Rattle.cmd_top.specs.cmd_perform.Report.{Reports}
use Rattle.cmd_input.specs.Words.{Command, FlatFile, BuildSources, CheckFile, CheckSources, RunFile, RunSources, RunGnu, RunThreads, GenerateProgram, command_of}
use Rattle.cmd_answers.specs.Files.{FileState}
use Rattle.cmd_top.specs.cmd_perform.Yields.{Streams}

-- a whole report was written, its status returned, and its rest of the input left
pub record IsReported (words : List (List ℕ)) (files : List (List ℕ × List ℕ)) (bytes : List ℕ) (old new : Streams) (status : ℕ) : Type 0 where
  pub report : Report
  pub is : Reports (command_of words) files bytes report
  pub wrote : Appends old.output new.output report.text
  pub answers : status ≡ report.status
  pub leaves : new.input ≡ Some report.left

-- none of a failed read, a failed write and lack of memory
pub record IsConclusive (status : ℕ) : Type 0 where
  pub read : status ≢ 7
  pub write : status ≢ 8
  pub memory : status ≢ 9

-- commands that run no program, or one without input
abbrev pub ReadsNothing : Option Command → Type 0
ReadsNothing None = Unit {0}
ReadsNothing (Some (FlatFile name budget)) = ⊥
ReadsNothing (Some (BuildSources names)) = Unit {0}
ReadsNothing (Some (CheckFile name)) = Unit {0}
ReadsNothing (Some (CheckSources names)) = Unit {0}
ReadsNothing (Some (RunFile name request)) = ⊥
ReadsNothing (Some (RunSources names request)) = ⊥
ReadsNothing (Some (RunGnu name budget)) = ⊥
ReadsNothing (Some (RunThreads names budget)) = ⊥
ReadsNothing (Some (GenerateProgram number functions)) = Unit {0}

pub record AnswersAreReports : Type 0 where
  -- if files and input are known, and neither a read nor a write nor memory failed
  pub report : (words : List (List ℕ)) (files files' : FileState) (held : List (List ℕ × List ℕ)) (bytes : List ℕ) (old new : Streams) (status : ℕ)
      → IsAnswer words files files' old new status → files.held ≡ Some held → old.input ≡ Some bytes → IsConclusive status → IsReported words held bytes old new status
  -- a command that reads nothing leaves the input as it was, known or not
  pub untouched : (words : List (List ℕ)) (files files' : FileState) (old new : Streams) (status : ℕ)
      → IsAnswer words files files' old new status → ReadsNothing (command_of words) → IsConclusive status → new.input ≡ old.input
  -- status 2 belongs to words that form no command, and to no others
  pub usage : (words : List (List ℕ)) (files files' : FileState) (old new : Streams)
      → IsAnswer words files files' old new 2 → command_of words ≡ None
