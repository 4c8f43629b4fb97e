-- The output, the status and the rest of the input of the program, by its words, its files and its input (docs/guide/command-line.md).
--
-- To add a command, add a case to each definition of the first part; nothing below them changes.
use Rattle.std.specs.Prelude.{ℕ, ◌≡◌, ◌⊎◌, ◌↔◌, List, [], ◌∷◌, Option, Some, None, IfOk, IfSome, IsOk, IsErr, IsErrOf, Result}
use Rattle.eh_port.specs.Causes.{Rose}
use Rattle.eh_port.specs.FileList.{answer_of}
use Rattle.cmd_input.specs.declared.sources.TheConstants.{FILE_LIMIT}
use Rattle.cmd_answers.specs.declared.status.TheConstants.{USAGE, FILE_UNAVAILABLE}
use Rattle.cmd_answers.specs.declared.stop.Stop.{Stop}
use Rattle.cmd_answers.specs.declared.stop.Stop.TheVariants.{Read, Write, Memory}
use Rattle.cmd_input.specs.AsksFor.{AsksFor, CallLacks, command_files}
use Rattle.cmd_input.specs.Loading.{Report}
use Rattle.cmd_answers.specs.Files.{IsUnavailable, FileState}
use Rattle.cmd_answers.specs.Statuses.{IsReported}
use Rattle.cmd_input.specs.Accepting.{IsUnaccepted}
use Rattle.cmd_perform.specs.BuildReport.{build_report, IsUnwritten}
use Rattle.cmd_input.specs.Building.{files_of}
use Rattle.cmd_perform.specs.CheckReport.{CheckReports, CheckSourcesReports}
use Rattle.cmd_perform.specs.FlatReport.{flat_report, IsTooLarge}
use Rattle.cmd_perform.specs.GnuReport.{GnuReports, RefusedGnu}
use Rattle.cmd_perform.specs.GenerateReport.{GenerateReports, IsUnfitProgram}
use Rattle.cmd_perform.specs.TaskReport.{RunReports, RunSourcesReports, RunBytesRefuse}
use Rattle.cmd_perform.specs.Text.{usage}
use Rattle.cmd_perform.specs.ThreadsReport.{ThreadsReports, RefusedThreads}
use Rattle.cmd_perform.specs.Unfit.{RefusedHeld, RefusedSources}
use Rattle.cmd_input.specs.Words.{Command, FlatFile, BuildSources, CheckFile, CheckSources, RunFile, RunSources, RunGnu, RunThreads, GenerateProgram}
use Rattle.cmd_perform.specs.Yields.{Streams, NoFault, DoesWhole, DoesPart, RefusedWhere, RefusedOf}

-- ---- by command

-- r is a report of the command, or of words that form none: the usage line, and the whole input left
abbrev pub Reports : Option Command → List (List ℕ × List ℕ) → List ℕ → Report → Type 0
Reports None files input r = r ≡ record { text = usage; status = USAGE; left = input }
Reports (Some (FlatFile name budget)) files input r = r ≡ flat_report name budget files input
Reports (Some (BuildSources names)) files input r = r ≡ build_report names files input
Reports (Some (CheckFile name)) files input r = CheckReports name files input r
Reports (Some (CheckSources names)) files input r = CheckSourcesReports names files input r
Reports (Some (RunFile name request)) files input r = RunReports name request files input r
Reports (Some (RunSources names request)) files input r = RunSourcesReports names request files input r
Reports (Some (RunGnu name budget)) files input r = GnuReports name budget files input r
Reports (Some (RunThreads names budget)) files input r = ThreadsReports names budget files input r
Reports (Some (GenerateProgram number functions)) files input r = GenerateReports number functions input r

-- a file that the command names is missing or too long
abbrev pub LacksFile : Option Command → List (List ℕ × List ℕ) → Type 0
LacksFile None files = ⊥
LacksFile (Some (FlatFile name budget)) files = IsUnavailable (answer_of files name FILE_LIMIT)
LacksFile (Some (BuildSources names)) files = IsErr (files_of files names)
LacksFile (Some (CheckFile name)) files = IsUnavailable (answer_of files name FILE_LIMIT)
LacksFile (Some (CheckSources names)) files = IsErr (files_of files names)
LacksFile (Some (RunFile name request)) files = IsUnavailable (answer_of files name FILE_LIMIT)
LacksFile (Some (RunSources names request)) files = IsErr (files_of files names)
LacksFile (Some (RunGnu name budget)) files = IsErr (files_of files (name ∷ []))
LacksFile (Some (RunThreads names budget)) files = IsErr (files_of files names)
LacksFile (Some (GenerateProgram number functions)) files = ⊥

-- What decides that the status is that of a refusal. For commands with files it is the files: they are there, and their contents are
-- refused. For a generated program it is the program. A command whose run can be refused also needs, in its case, that the input is known.
abbrev pub Refuses : Option Command → List (List ℕ × List ℕ) → (input : Option (List ℕ)) → (status : ℕ) → Type 0
Refuses None files = RefusedWhere ⊥
Refuses (Some (FlatFile name budget)) files = RefusedHeld (RefusedOf IsTooLarge) (answer_of files name FILE_LIMIT)
Refuses (Some (BuildSources names)) files = RefusedSources (RefusedOf IsUnwritten) (files_of files names)
Refuses (Some (CheckFile name)) files = RefusedHeld (RefusedOf IsUnaccepted) (answer_of files name FILE_LIMIT)
Refuses (Some (CheckSources names)) files = RefusedSources (RefusedOf IsUnaccepted) (files_of files names)
Refuses (Some (RunFile name request)) files = RefusedHeld (RunBytesRefuse request) (answer_of files name FILE_LIMIT)
Refuses (Some (RunSources names request)) files = RefusedSources (RunBytesRefuse request) (files_of files names)
Refuses (Some (RunGnu name budget)) files = RefusedGnu (files_of files (name ∷ []))
Refuses (Some (RunThreads names budget)) files = RefusedThreads (files_of files names)
Refuses (Some (GenerateProgram number functions)) files = RefusedWhere (IsUnfitProgram number functions)

-- If all that the command reads is known: the files, the input, and what is left of the input. Words that form no command and a generated
-- program read nothing, and a command that runs nothing leaves the input as it was, whatever it is.
abbrev pub IfTold : Option Command → (files : Option (List (List ℕ × List ℕ))) → (input left : Option (List ℕ))
    → (List (List ℕ × List ℕ) → List ℕ → Option (List ℕ) → Type 0) → Type 0
IfTold None files input left P = (left ≡ input) × ((held : List (List ℕ × List ℕ)) (bytes : List ℕ) → P held bytes (Some bytes))
IfTold (Some (FlatFile name budget)) files input left P = IfSome files (λ held. IfSome input (λ bytes. P held bytes left))
IfTold (Some (BuildSources names)) files input left P = (left ≡ input) × IfSome files (λ held. (bytes : List ℕ) → P held bytes (Some bytes))
IfTold (Some (CheckFile name)) files input left P = (left ≡ input) × IfSome files (λ held. (bytes : List ℕ) → P held bytes (Some bytes))
IfTold (Some (CheckSources names)) files input left P = (left ≡ input) × IfSome files (λ held. (bytes : List ℕ) → P held bytes (Some bytes))
IfTold (Some (RunFile name request)) files input left P = IfSome files (λ held. IfSome input (λ bytes. P held bytes left))
IfTold (Some (RunSources names request)) files input left P = IfSome files (λ held. IfSome input (λ bytes. P held bytes left))
IfTold (Some (RunGnu name budget)) files input left P = IfSome files (λ held. IfSome input (λ bytes. P held bytes left))
IfTold (Some (RunThreads names budget)) files input left P = IfSome files (λ held. IfSome input (λ bytes. P held bytes left))
IfTold (Some (GenerateProgram number functions)) files input left P = (left ≡ input) × ((held : List (List ℕ × List ℕ)) (bytes : List ℕ) → P held bytes (Some bytes))

-- ---- what a call has done of a command

-- what the status of a command says of its files
pub record Why (command : Option Command) (files : List (List ℕ × List ℕ)) (input : Option (List ℕ)) (status : ℕ) : Type 0 where
  pub missing : (status ≡ FILE_UNAVAILABLE) ↔ LacksFile command files
  pub refused : Refuses command files input status

-- A call for a command, given the files and streams before and after it: at `Ok` it did a whole report, and in any case a part of one.
pub record Does (command : Option Command) (files files' : FileState) (old new : Streams) (result : Result ℕ Stop) : Type 0 where
  pub whole : IfTold command files.held old.input new.input (λ held bytes left. IfOk result (λ status. DoesWhole (Reports command held bytes) status left old.output new.output))
  pub part : IfTold command files.held old.input new.input (λ held bytes _. DoesPart (Reports command held bytes) old.output new.output)
  pub why : IfOk result (λ status. IfSome files.held (λ held. Why command held old.input status))
  pub read : IsErrOf result Read → Rose files.faults files'.faults ⊎ Rose old.input_faults new.input_faults
  pub write : IsErrOf result Write → Rose old.output_faults new.output_faults
  pub memory : IsErrOf result Memory → (files'.faults ≡ files.faults) × NoFault old new
  pub status : IfOk result IsReported
  pub usage : IfOk result (λ status. (status ≡ USAGE) ↔ (command ≡ None))
  pub asked : AsksFor (command_files command) (IsOk result) (CallLacks result) files files'
