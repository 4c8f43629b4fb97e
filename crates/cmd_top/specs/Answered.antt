-- The whole promise of a call of the program, over any files, source and sink (docs/guide/command-line.md): what `ehabi_main` does with the words
-- that it is given, and `run_words` of `ehabi_run` with those of the system.
use Rattle.std.specs.Prelude.{ℕ, ◌≡◌, ◌≤◌, ◌↔◌, ◌⊎◌, true, List, None, IfSome}
use Rattle.eh_port.specs.Causes.{Rose}
use Rattle.cmd_answers.specs.declared.status.TheConstants.{USAGE, READ_FAILED, WRITE_FAILED, NO_MEMORY, FILE_UNAVAILABLE}
use Rattle.cmd_input.specs.AsksFor.{AsksFor, command_files}
use Rattle.cmd_answers.specs.Statuses.{is_conclusive}
use Rattle.cmd_perform.specs.Report.{Reports, IfTold, LacksFile, Refuses}
use Rattle.cmd_input.specs.Words.{command_of}
use Rattle.cmd_answers.specs.Files.{FileState}
use Rattle.cmd_perform.specs.Yields.{Streams, NoFault, DoesWhole, DoesPart}

-- The status fits these words, given the files and the streams before and after the call.
pub record IsAnswer (words : List (List ℕ)) (files files' : FileState) (old new : Streams) (status : ℕ) : Type 0 where
  -- Unless a read, a write or memory failed, it wrote the whole report and returned its status. The report of an accepted image that is run
  -- is that of the machine with recorded activations too (`RunsAccepted`, `CountsAccepted`); the same holds for a walk.
  pub report : is_conclusive status ≡ true → IfTold (command_of words) files.held old.input new.input (λ held bytes left.
      DoesWhole (Reports (command_of words) held bytes) status left old.output new.output)
  -- In any case it wrote a part of the report.
  pub part : IfTold (command_of words) files.held old.input new.input (λ held bytes _. DoesPart (Reports (command_of words) held bytes) old.output new.output)
  -- A fault has a cause, and lack of memory hides none.
  pub read : status ≡ READ_FAILED → Rose files.faults files'.faults ⊎ Rose old.input_faults new.input_faults
  pub write : status ≡ WRITE_FAILED → Rose old.output_faults new.output_faults
  pub memory : status ≡ NO_MEMORY → (files'.faults ≡ files.faults) × NoFault old new
  -- Whatever the files and streams hold, the status of words that form no command is 2, and no other words have status 2.
  pub usage : is_conclusive status ≡ true → (status ≡ USAGE) ↔ (command_of words ≡ None)
  -- Status 10 means a file that is missing or too long, and 3 a refusal, as the command says.
  pub missing : is_conclusive status ≡ true → IfSome files.held (λ held. (status ≡ FILE_UNAVAILABLE) ↔ LacksFile (command_of words) held)
  pub refused : is_conclusive status ≡ true → IfSome files.held (λ held. Refuses (command_of words) held old.input status)
  -- It asked for the files that the command names, in order, each once, up to the first that is missing or too long. For words that form no
  -- command it asked for none.
  pub asked : AsksFor (command_files (command_of words)) (is_conclusive status ≡ true) (status ≡ FILE_UNAVAILABLE) files files'
  -- With no fault, it did the whole report, or there was no memory.
  pub complete : ¬ (Rose files.faults files'.faults) → ¬ (Rose old.input_faults new.input_faults) → ¬ (Rose old.output_faults new.output_faults)
      → (status ≡ NO_MEMORY) ⊎ IfTold (command_of words) files.held old.input new.input (λ held bytes left.
      DoesWhole (Reports (command_of words) held bytes) status left old.output new.output)
  pub bounded : status ≤ FILE_UNAVAILABLE
