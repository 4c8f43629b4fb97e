-- What the files that a command asks for are found to hold.
use Rattle.std.proofs.Common.{◌≡◌, ◌∙◌, ℕ, List, Option, Some, None, IfSome, Result, Ok, Err, refl, sym, ap}
use Rattle.std.specs.Prelude.{IfErr, MatchResult, false}
use Rattle.eh_port.specs.FileList.{answer_of}
use Rattle.eh_port.specs.declared.files.FileAnswer.{FileAnswer}
use Rattle.cmd_answers.specs.Files.{FileState}
use Rattle.cmd_answers.specs.declared.status.TheConstants.{FILE_UNAVAILABLE}
use Rattle.cmd_input.specs.Building.{build_image, files_of, image_bytes, or_refusal, made_of_files, refusal_of, wants_memory}
use Rattle.cmd_input.specs.Finding.{Finds, bytes_of_answer, file_bytes}
use Rattle.cmd_input.specs.Sources.{NamedText, Refusal}
use Rattle.cmd_input.specs.declared.refusal.FilesFault.{FilesFault}
use Rattle.cmd_input.specs.declared.sources.TheConstants.{FILE_LIMIT}

-- the files of a call
abbrev Held : Type 0
Held = List (List ℕ × List ℕ)

pub finds_ok : {T A : Type 0} (value_of : T → A) (ask : Held → Result A Refusal) (files files' : FileState) (answer : Result T FilesFault)
    → IfSome files.held (λ held. MatchResult answer (λ found. ask held ≡ Ok (value_of found)) (λ fault. ask held ≡ Err (refusal_of fault))) → IfErr answer (λ fault. wants_memory fault ≡ false) → files'.faults ≡ files.faults
    → Finds value_of ask files files' (Ok answer)
finds_ok value_of ask files files' answer told fit kept = record {
  told = told;
  fit = fit;
  read = λ e. absurd (cc);
  write = λ e. cc;
  memory = λ e. absurd (cc);
  kept = kept;
}

-- ---- one file

pub file_is : (name : List ℕ) (held : Held) → file_bytes name held ≡ bytes_of_answer name (answer_of held name FILE_LIMIT)
unfolding file_bytes
file_is name held = refl

pub file_told : (name : List ℕ) (answer : FileAnswer) (held : Option Held) → IfSome held (λ h. answer ≡ answer_of h name FILE_LIMIT)
    → IfSome held (λ h. file_bytes name h ≡ bytes_of_answer name answer)
file_told name answer None e = tt
file_told name answer (Some h) e = file_is name h ∙ ap (bytes_of_answer name) (sym e)

-- ---- sources

pub bytes_is : (names : List (List ℕ)) (held : Held) → image_bytes names held ≡ made_of_files build_image (files_of held names)
unfolding image_bytes
bytes_is names held = refl

-- a file that is missing or too long
pub bytes_unavailable : (names : List (List ℕ)) (line : List ℕ) (held : Option Held)
    → IfSome held (λ h. Err line ≡ files_of h names) → IfSome held (λ h. image_bytes names h ≡ Err (record { status = FILE_UNAVAILABLE; line = line }))
bytes_unavailable names line None e = tt
bytes_unavailable names line (Some h) e = bytes_is names h ∙ ap (made_of_files build_image) (sym e)

pub bytes_built : (names : List (List ℕ)) (sources : List NamedText) (answer : Result (List ℕ) (List ℕ)) (held : Option Held)
    → IfSome held (λ h. Ok sources ≡ files_of h names) → build_image sources ≡ answer → IfSome held (λ h. image_bytes names h ≡ or_refusal answer)
bytes_built names sources answer None e b = tt
bytes_built names sources answer (Some h) e b = bytes_is names h ∙ ap (made_of_files build_image) (sym e) ∙ ap or_refusal b
