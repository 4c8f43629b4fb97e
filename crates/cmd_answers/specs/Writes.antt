-- What a call that writes guarantees, and why a program stops early.
use Rattle.std.specs.Prelude.{ℕ, ◌≡◌, ◌≤◌, List, Option, OnOk, IfErr, IfOk, Result, Err}
use Rattle.std.specs.Io.KnownBytes.{Appends}
use Rattle.eh_port.specs.Causes.{Rose}
use Rattle.eh_port.specs.Writing.{AppendsPart}
use Rattle.eh_port.specs.declared.files.FileFault.{FileFault}
use Rattle.eh_port.specs.declared.files.FileFault.TheVariants.{Failed, OutOfMemory}
use Rattle.cmd_answers.specs.declared.status.TheConstants.{READ_FAILED, WRITE_FAILED, NO_MEMORY}
use Rattle.cmd_answers.specs.declared.stop.Stop.{Stop}
use Rattle.cmd_answers.specs.declared.stop.Stop.TheVariants.{Read, Write, Memory}

abbrev pub stop_of : FileFault → Stop
stop_of Failed = Read
stop_of OutOfMemory = Memory

abbrev pub stop_status : Stop → ℕ
stop_status Read = READ_FAILED
stop_status Write = WRITE_FAILED
stop_status Memory = NO_MEMORY

-- a call that ends with a text and a status: at `Ok` all of the text is written, otherwise a part of it, and the sink failed
pub record Answers (text : List ℕ) (status : ℕ) (result : Result ℕ Stop) (before now : Option (List ℕ)) (faults_before faults_now : ℕ) : Type 0 where
  pub ok : OnOk result (Appends before now text)
  pub status_is : IfOk result (λ s. s ≡ status)
  pub part : AppendsPart before now text
  pub later : faults_before ≤ faults_now
  pub failed : IfErr result (λ stop. (stop ≡ Write) × Rose faults_before faults_now)

-- nothing was done
pub record StopsEarly (stop : Stop) (result : Result ℕ Stop) (before now : Option (List ℕ)) (faults_before faults_now : ℕ) : Type 0 where
  pub is : result ≡ Err stop
  pub same : now ≡ before
  pub faultless : faults_now ≡ faults_before
