-- The bytes that a command works on, from one file or built from several; or why there are none.
use Rattle.std.specs.Prelude.{ℕ, ◌≡◌, false, List, Result, Ok, Err, IfOk, IfErr, IfSome, OnOk, IsErrOf, MatchResult}
use Rattle.eh_port.specs.Causes.{Rose}
use Rattle.eh_port.specs.FileList.{answer_of}
use Rattle.eh_port.specs.declared.files.FileAnswer.{FileAnswer}
use Rattle.eh_port.specs.declared.files.FileAnswer.TheVariants.{Found, Missing, TooLong}
use Rattle.cmd_input.specs.Building.{refusal_of, wants_memory}
use Rattle.cmd_input.specs.Loading.{Report}
use Rattle.cmd_input.specs.Sources.{Refusal}
use Rattle.cmd_answers.specs.Files.{missing_line, too_long_line, FileState}
use Rattle.cmd_input.specs.declared.refusal.FilesFault.{FilesFault}
use Rattle.cmd_input.specs.declared.sources.TheConstants.{FILE_LIMIT}
use Rattle.cmd_answers.specs.declared.status.TheConstants.{FILE_UNAVAILABLE}
use Rattle.cmd_answers.specs.declared.stop.Stop.{Stop}
use Rattle.cmd_answers.specs.declared.stop.Stop.TheVariants.{Read, Write, Memory}

abbrev pub bytes_of_answer : List ℕ → FileAnswer → Result (List ℕ) Refusal
bytes_of_answer name (Found bytes) = Ok bytes
bytes_of_answer name Missing = Err (record { status = FILE_UNAVAILABLE; line = missing_line name })
bytes_of_answer name TooLong = Err (record { status = FILE_UNAVAILABLE; line = too_long_line name })

-- the bytes of the file of a name, or the line of a missing or too long one
unfoldable pub file_bytes : List ℕ → List (List ℕ × List ℕ) → Result (List ℕ) Refusal
file_bytes name files = bytes_of_answer name (answer_of files name FILE_LIMIT)

-- the report of the bytes and of the input, or the line that says why there are no bytes
abbrev pub found_report : (List ℕ → List ℕ → Report) → Result (List ℕ) Refusal → List ℕ → Report
found_report report (Ok bytes) input = report bytes input
found_report report (Err refusal) input = record { text = refusal.line; status = refusal.status; left = input }

-- a report of what files give and of the input, or the line that says why they give nothing
abbrev pub FoundReports : {T : Type 0} → (T → List ℕ → Report → Type 0) → Result T Refusal → List ℕ → Report → Type 0
FoundReports Says (Ok found) input r = Says found input r
FoundReports Says (Err refusal) input r = r ≡ record { text = refusal.line; status = refusal.status; left = input }

-- A call that gets something from the files, usually bytes. It gives a value that stands for that, or a fault that stands for the refusal.
-- A stop is a failed read, or lack of memory if no read has failed.
pub record Finds {T A : Type 0} (value_of : T → A) (ask : List (List ℕ × List ℕ) → Result A Refusal) (files files' : FileState) (result : Result (Result T FilesFault) Stop) : Type 0 where
  pub told : IfOk result (λ answer. IfSome files.held (λ held. MatchResult answer (λ found. ask held ≡ Ok (value_of found)) (λ fault. ask held ≡ Err (refusal_of fault))))
  pub fit : IfOk result (λ answer. IfErr answer (λ fault. wants_memory fault ≡ false))
  pub read : IsErrOf result Read → Rose files.faults files'.faults
  pub write : IsErrOf result Write → ⊥
  pub memory : IsErrOf result Memory → files'.faults ≡ files.faults
  pub kept : OnOk result (files'.faults ≡ files.faults)
