-- What a call that writes a text part by part guarantees.
use Rattle.std.specs.Prelude.{ℕ, ◌≡◌, List, Option, OnOk, IsErrOf, Result}
use Rattle.std.specs.Io.KnownBytes.{Appends}
use Rattle.eh_port.specs.Causes.{Rose}
use Rattle.eh_port.specs.Writing.{AppendsPart}
use Rattle.cmd_answers.specs.declared.stop.Stop.{Stop}
use Rattle.cmd_answers.specs.declared.stop.Stop.TheVariants.{Read, Write, Memory}

-- At `Ok` all of the text is written, otherwise a first part of it. A failed write has a cause, and if memory was lacking none has failed.
pub record Writes {T : Type 0} (text : List ℕ) (result : Result T Stop) (before now : Option (List ℕ)) (faults_before faults_now : ℕ) : Type 0 where
  pub ok : OnOk result (Appends before now text)
  pub kept : OnOk result (faults_now ≡ faults_before)
  pub part : AppendsPart before now text
  pub read : IsErrOf result Read → ⊥
  pub write : IsErrOf result Write → Rose faults_before faults_now
  pub memory : IsErrOf result Memory → faults_now ≡ faults_before
