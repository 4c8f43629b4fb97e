-- What a call has done of an audit: a whole report, or a first part of one.
use Rattle.std.specs.Prelude.{ℕ, ◌≡◌, ◌↔◌, ◌⊎◌, List, Option, Some, None, IfOk, IfSome, IsErrOf, Result}
use Rattle.std.specs.Io.KnownBytes.{Appends, Keeps}
use Rattle.eh_port.specs.FileList.{answer_of}
use Rattle.eh_port.specs.Causes.{Rose}
use Rattle.eh_port.specs.Writing.{AppendsPart}
use Rattle.cmd_answers.specs.Files.{FileState, IsUnavailable}
use Rattle.cmd_answers.specs.Statuses.{IsReported}
use Rattle.cmd_answers.specs.declared.status.TheConstants.{DONE, USAGE, REFUSED, FILE_UNAVAILABLE}
use Rattle.cmd_answers.specs.declared.stop.Stop.{Stop}
use Rattle.cmd_answers.specs.declared.stop.Stop.TheVariants.{Read, Write, Memory}
use Rattle.audit_top.specs.Report.{AuditReport, Reports, HoldsAccepted, HoldsRefused}
use Rattle.audit_top.specs.declared.report.TheConstants.{MOST_BYTES}

-- one of these reports was written whole, and its status returned
pub record DoesWhole (Says : AuditReport → Type 0) (status : ℕ) (before now : Option (List ℕ)) : Type 0 where
  pub report : AuditReport
  pub is : Says report
  pub status_is : status ≡ report.status
  pub wrote : Appends before now report.text

-- a prefix of one of them was written
pub record DoesSome (Says : AuditReport → Type 0) (before now : Option (List ℕ)) : Type 0 where
  pub report : AuditReport
  pub is : Says report
  pub wrote : AppendsPart before now report.text

-- .. or nothing
abbrev pub DoesPart : (AuditReport → Type 0) → Option (List ℕ) → Option (List ℕ) → Type 0
DoesPart Says before now = Keeps before now ⊎ DoesSome Says before now

-- ---- bytes

-- a status says whether the bytes are an accepted image
pub record Judges (accepted : Type 0) (status : ℕ) : Type 0 where
  pub done : (status ≡ DONE) ↔ accepted
  pub refused : (status ≡ REFUSED) ↔ (¬ accepted)

-- a call that writes a report of bytes: whole at `Ok`, and a part of it in any case
pub record Tells (Says : AuditReport → Type 0) (accepted : Type 0) (result : Result ℕ Stop) (before now : Option (List ℕ)) (faults_before faults_now : ℕ) : Type 0 where
  pub whole : IfOk result (λ status. DoesWhole Says status before now)
  pub part : DoesPart Says before now
  pub judges : IfOk result (Judges accepted)
  pub read : IsErrOf result Read → ⊥
  pub write : IsErrOf result Write → Rose faults_before faults_now
  pub memory : IsErrOf result Memory → faults_now ≡ faults_before

-- ---- files

-- if what the files hold is known; words that name no file read nothing
abbrev pub IfTold : Option (List ℕ) → Option (List (List ℕ × List ℕ)) → (List (List ℕ × List ℕ) → Type 0) → Type 0
IfTold None files P = (held : List (List ℕ × List ℕ)) → P held
IfTold (Some name) files P = IfSome files P

-- the file is missing or too long
abbrev pub LacksFile : Option (List ℕ) → List (List ℕ × List ℕ) → Type 0
LacksFile None files = ⊥
LacksFile (Some name) files = IsUnavailable (answer_of files name MOST_BYTES)

-- what the status says of the file
pub record Why (name : Option (List ℕ)) (files : List (List ℕ × List ℕ)) (status : ℕ) : Type 0 where
  pub done : (status ≡ DONE) ↔ HoldsAccepted name files
  pub refused : (status ≡ REFUSED) ↔ HoldsRefused name files
  pub missing : (status ≡ FILE_UNAVAILABLE) ↔ LacksFile name files

-- the names asked for: the file's name once, and no other
abbrev pub names_asked_after : Option (List ℕ) → FileState → ℕ
names_asked_after None files = files.asked
names_asked_after (Some name) files = files.with_name files.asked name

-- a call for the file of this name, or for words that name none, given the files and the sink before and after it
pub record Does (name : Option (List ℕ)) (files files' : FileState) (result : Result ℕ Stop) (before now : Option (List ℕ)) (faults_before faults_now : ℕ) : Type 0 where
  pub whole : IfTold name files.held (λ held. IfOk result (λ status. DoesWhole (Reports name held) status before now))
  pub part : IfTold name files.held (λ held. DoesPart (Reports name held) before now)
  pub why : IfOk result (λ status. IfSome files.held (λ held. Why name held status))
  pub read : IsErrOf result Read → Rose files.faults files'.faults
  pub write : IsErrOf result Write → Rose faults_before faults_now
  pub memory : IsErrOf result Memory → (files'.faults ≡ files.faults) × (faults_now ≡ faults_before)
  pub status : IfOk result IsReported
  pub usage : IfOk result (λ status. (status ≡ USAGE) ↔ (name ≡ None))
  pub asked : files'.asked ≡ names_asked_after name files
