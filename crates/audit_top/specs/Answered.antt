-- The whole promise of an audit, over any files and sink (docs/guide/audit.md, "The program"): what `audit_main` does with the words that it is
-- given.
use Rattle.std.specs.Prelude.{ℕ, ◌≡◌, ◌≤◌, ◌↔◌, ◌⊎◌, true, List, Option, None, IfSome}
use Rattle.eh_port.specs.Causes.{Rose}
use Rattle.cmd_answers.specs.Files.{FileState}
use Rattle.cmd_answers.specs.Statuses.{is_conclusive}
use Rattle.cmd_answers.specs.declared.status.TheConstants.{DONE, USAGE, REFUSED, READ_FAILED, WRITE_FAILED, NO_MEMORY, FILE_UNAVAILABLE}
use Rattle.audit_top.specs.Does.{DoesWhole, DoesPart, IfTold, LacksFile, names_asked_after}
use Rattle.audit_top.specs.Report.{Reports, HoldsAccepted, HoldsRefused}
use Rattle.audit_top.specs.Words.{name_of}

-- The status fits these words, given the files and the sink before and after the call.
pub record IsAuditAnswer (words : List (List ℕ)) (files files' : FileState) (before now : Option (List ℕ)) (faults_before faults_now status : ℕ) : Type 0 where
  -- Unless a read, a write or memory failed, it wrote a whole report and returned its status.
  pub report : is_conclusive status ≡ true → IfTold (name_of words) files.held (λ held. DoesWhole (Reports (name_of words) held) status before now)
  -- In any case it wrote a first part of a report, or nothing.
  pub part : IfTold (name_of words) files.held (λ held. DoesPart (Reports (name_of words) held) before now)
  -- Status 0 means exactly a file with an image that is accepted: itself, or rewritten if an entry of its index is generic. Status 3 means
  -- a file without such an image, and 10 a file that is missing or too long.
  pub done : is_conclusive status ≡ true → IfSome files.held (λ held. (status ≡ DONE) ↔ HoldsAccepted (name_of words) held)
  pub refused : is_conclusive status ≡ true → IfSome files.held (λ held. (status ≡ REFUSED) ↔ HoldsRefused (name_of words) held)
  pub missing : is_conclusive status ≡ true → IfSome files.held (λ held. (status ≡ FILE_UNAVAILABLE) ↔ LacksFile (name_of words) held)
  -- Whatever the files hold, the status of words that name no file is 2, and no other words have status 2.
  pub usage : is_conclusive status ≡ true → (status ≡ USAGE) ↔ (name_of words ≡ None)
  -- A fault has a cause, and lack of memory hides none.
  pub read : status ≡ READ_FAILED → Rose files.faults files'.faults
  pub write : status ≡ WRITE_FAILED → Rose faults_before faults_now
  pub memory : status ≡ NO_MEMORY → (files'.faults ≡ files.faults) × (faults_now ≡ faults_before)
  -- It asked for the file once, and for no other; for words that name no file it asked for none.
  pub asked : files'.asked ≡ names_asked_after (name_of words) files
  -- With no fault, it did a whole report, or there was no memory.
  pub complete : ¬ (Rose files.faults files'.faults) → ¬ (Rose faults_before faults_now)
      → (status ≡ NO_MEMORY) ⊎ IfTold (name_of words) files.held (λ held. DoesWhole (Reports (name_of words) held) status before now)
  pub bounded : status ≤ FILE_UNAVAILABLE
