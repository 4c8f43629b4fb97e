-- The commands: what each asks the files for, and what it makes of the bytes.
use Rattle.std.proofs.Common.{◌≡◌, ℕ, List, [], ◌∷◌, Option, Some, None, IfSome, Result, Ok, Err, refl, sym, ap, ◌∙◌}
use Rattle.eh_port.specs.FileList.{answer_of}
use Rattle.eh_port.specs.declared.files.FileAnswer.{FileAnswer}
use Rattle.eh_port.specs.declared.files.FileAnswer.TheVariants.{Found, Missing, TooLong}
use Rattle.cmd_input.specs.declared.sources.TheConstants.{FILE_LIMIT}
use Rattle.cmd_answers.specs.declared.status.TheConstants.{FILE_UNAVAILABLE}
use Rattle.cmd_input.specs.declared.words.Request.{Request}
use Rattle.cmd_input.specs.Accepting.{BytesReportsBy, IsUnaccepted}
use Rattle.cmd_perform.specs.BuildReport.{IsUnwritten, build_report, plain_report}
use Rattle.cmd_input.specs.Building.{build_image, files_of, image_bytes, or_refusal, made_of_files}
use Rattle.cmd_perform.specs.CheckReport.{ChecksAccepted}
use Rattle.cmd_input.specs.Finding.{FoundReports, bytes_of_answer, file_bytes, found_report}
use Rattle.cmd_perform.specs.FlatReport.{IsTooLarge, code_report, flat_report}
use Rattle.cmd_input.specs.Loading.{Report}
use Rattle.cmd_answers.specs.Statuses.{SaysWhyBy}
use Rattle.cmd_answers.specs.Files.{IsUnavailable}
use Rattle.cmd_perform.specs.TaskReport.{RunBytesReports, RunBytesRefuse}
use Rattle.cmd_perform.specs.Yields.{Only, RefusedOf}
use Rattle.cmd_input.specs.Sources.{NamedText, Refusal}
use Rattle.cmd_perform.specs.Unfit.{RefusedHeld}
use Rattle.cmd_input.specs.Words.{FlatFile, BuildSources, CheckFile, CheckSources, RunFile, RunSources, RunGnu, RunThreads}
use Rattle.cmd_perform.specs.ThreadsReport.{ThreadProgramValue, RefusesThreaded, ThreadsBytesReports, thread_program_of, thread_program_or_refusal}
use Rattle.cmd_perform.specs.GnuReport.{GnuProgramValue, RefusesRewritten, GnuBytesReports, gnu_program_of_last, gnu_program_or_refusal}
use Rattle.cmd_perform.proofs.Doing.{Held, Asks, Reads, LeavesInput}
use Rattle.cmd_input.proofs.Finding.{file_is, bytes_is}
use Rattle.cmd_answers.proofs.Statuses.{says_unavailable}
use Rattle.cmd_perform.proofs.Statuses.{made_fits, made_refused}

-- ---- one file

abbrev status_in : Result (List ℕ) Refusal → ℕ
status_in (Ok bytes) = 0
status_in (Err refusal) = refusal.status

module _ (refuses : List ℕ → Option (List ℕ) → ℕ → Type 0) (name : List ℕ) (input : Option (List ℕ)) where
  answer_fits : (answer : FileAnswer) (bytes : List ℕ) (s : ℕ) → bytes_of_answer name answer ≡ Ok bytes → SaysWhyBy s ⊥ (refuses bytes input s) → SaysWhyBy s (IsUnavailable answer) (RefusedHeld refuses answer input s)
  answer_fits (Found found) bytes s e w =
      let is : found ≡ bytes = cc in
      rw is (record { missing = w.missing; refused = w.refused })
  answer_fits Missing bytes s e w = absurd (cc)
  answer_fits TooLong bytes s e w = absurd (cc)

  answer_lacks : (answer : FileAnswer) (refusal : Refusal) → bytes_of_answer name answer ≡ Err refusal → SaysWhyBy refusal.status (IsUnavailable answer) (RefusedHeld refuses answer input refusal.status)
  answer_lacks (Found found) refusal e = absurd (cc)
  answer_lacks Missing refusal e =
      let is : FILE_UNAVAILABLE ≡ refusal.status = ap (λ (r : Result (List ℕ) Refusal). status_in r) e in
      rw (← is) (says_unavailable (Unit {0}) ⊥ tt (λ u. u))
  answer_lacks TooLong refusal e =
      let is : FILE_UNAVAILABLE ≡ refusal.status = ap (λ (r : Result (List ℕ) Refusal). status_in r) e in
      rw (← is) (says_unavailable (Unit {0}) ⊥ tt (λ u. u))

  file_fits : (held : Held) (bytes : List ℕ) (s : ℕ) → file_bytes name held ≡ Ok bytes → SaysWhyBy s ⊥ (refuses bytes input s)
      → SaysWhyBy s (IsUnavailable (answer_of held name FILE_LIMIT)) (RefusedHeld refuses (answer_of held name FILE_LIMIT) input s)
  file_fits held bytes s e w = answer_fits (answer_of held name FILE_LIMIT) bytes s (sym (file_is name held) ∙ e) w

  file_lacks : (held : Held) (refusal : Refusal) → file_bytes name held ≡ Err refusal
      → SaysWhyBy refusal.status (IsUnavailable (answer_of held name FILE_LIMIT)) (RefusedHeld refuses (answer_of held name FILE_LIMIT) input refusal.status)
  file_lacks held refusal e = answer_lacks (answer_of held name FILE_LIMIT) refusal (sym (file_is name held) ∙ e)

-- what is made of bytes is a report by itself
only_found : (ready : List ℕ → List ℕ → Report) (found : Result (List ℕ) Refusal) (input : List ℕ) (r : Report) → FoundReports (λ bytes. Only (ready bytes)) found input r → r ≡ found_report ready found input
only_found ready (Ok bytes) input r h = h
only_found ready (Err refusal) input r h = h

flat_at : (name : List ℕ) (budget : ℕ) (held : Held) (input : List ℕ) → flat_report name budget held input ≡ found_report (code_report budget) (file_bytes name held) input
unfolding flat_report
flat_at name budget held input = refl

pub flat_asks : (name : List ℕ) (budget : ℕ) → Asks (Some (FlatFile name budget)) (file_bytes name) (λ code. Only (code_report budget code)) (RefusedOf IsTooLarge)
flat_asks name budget = record {
  reports = λ held input r h. only_found (code_report budget) (file_bytes name held) input r h ∙ sym (flat_at name budget held input);
  fits = λ held input bytes s e w. let v = file_fits (RefusedOf IsTooLarge) name input held bytes s e w in record { missing = v.missing; refused = v.refused };
  lacks = λ held input refusal e. let v = file_lacks (RefusedOf IsTooLarge) name input held refusal e in record { missing = v.missing; refused = v.refused };
  some = λ e. cc;
}

pub flat_reads : (name : List ℕ) (budget : ℕ) → Reads (Some (FlatFile name budget))
flat_reads name budget P files input left h = h

pub run_asks : (name : List ℕ) (request : Request) → Asks (Some (RunFile name request)) (file_bytes name) (RunBytesReports request) (RunBytesRefuse request)
run_asks name request = record {
  reports = λ held input r h. h;
  fits = λ held input bytes s e w. let v = file_fits (RunBytesRefuse request) name input held bytes s e w in record { missing = v.missing; refused = v.refused };
  lacks = λ held input refusal e. let v = file_lacks (RunBytesRefuse request) name input held refusal e in record { missing = v.missing; refused = v.refused };
  some = λ e. cc;
}

pub run_reads : (name : List ℕ) (request : Request) → Reads (Some (RunFile name request))
run_reads name request P files input left h = h

pub check_asks : (name : List ℕ) → Asks (Some (CheckFile name)) (file_bytes name) (BytesReportsBy ChecksAccepted) (RefusedOf IsUnaccepted)
check_asks name = record {
  reports = λ held input r h. h;
  fits = λ held input bytes s e w. let v = file_fits (RefusedOf IsUnaccepted) name input held bytes s e w in record { missing = v.missing; refused = v.refused };
  lacks = λ held input refusal e. let v = file_lacks (RefusedOf IsUnaccepted) name input held refusal e in record { missing = v.missing; refused = v.refused };
  some = λ e. cc;
}

pub check_leaves : (name : List ℕ) → LeavesInput (Some (CheckFile name))
check_leaves name P files input h = (refl, h)

-- ---- sources

build_at : (names : List (List ℕ)) (held : Held) (input : List ℕ) → build_report names held input ≡ found_report plain_report (image_bytes names held) input
unfolding build_report
build_at names held input = refl

pub build_asks : (names : List (List ℕ)) → Asks (Some (BuildSources names)) (image_bytes names) (λ bytes. Only (plain_report bytes)) (RefusedOf IsUnwritten)
build_asks names = record {
  reports = λ held input r h. only_found plain_report (image_bytes names held) input r h ∙ sym (build_at names held input);
  fits = λ held input bytes s e w. let v = made_fits build_image (RefusedOf IsUnwritten) input (files_of held names) bytes s (sym (bytes_is names held) ∙ e) w in record { missing = v.missing; refused = v.refused };
  lacks = λ held input refusal e. let v = made_refused build_image (RefusedOf IsUnwritten) input (files_of held names) refusal (sym (bytes_is names held) ∙ e) in record { missing = v.missing; refused = v.refused };
  some = λ e. cc;
}

pub build_leaves : (names : List (List ℕ)) → LeavesInput (Some (BuildSources names))
build_leaves names P files input h = (refl, h)

pub sources_asks : (names : List (List ℕ)) (request : Request) → Asks (Some (RunSources names request)) (image_bytes names) (RunBytesReports request) (RunBytesRefuse request)
sources_asks names request = record {
  reports = λ held input r h. h;
  fits = λ held input bytes s e w. let v = made_fits build_image (RunBytesRefuse request) input (files_of held names) bytes s (sym (bytes_is names held) ∙ e) w in record { missing = v.missing; refused = v.refused };
  lacks = λ held input refusal e. let v = made_refused build_image (RunBytesRefuse request) input (files_of held names) refusal (sym (bytes_is names held) ∙ e) in record { missing = v.missing; refused = v.refused };
  some = λ e. cc;
}

pub sources_reads : (names : List (List ℕ)) (request : Request) → Reads (Some (RunSources names request))
sources_reads names request P files input left h = h

pub check_sources_asks : (names : List (List ℕ)) → Asks (Some (CheckSources names)) (image_bytes names) (BytesReportsBy ChecksAccepted) (RefusedOf IsUnaccepted)
check_sources_asks names = record {
  reports = λ held input r h. h;
  fits = λ held input bytes s e w. let v = made_fits build_image (RefusedOf IsUnaccepted) input (files_of held names) bytes s (sym (bytes_is names held) ∙ e) w in record { missing = v.missing; refused = v.refused };
  lacks = λ held input refusal e. let v = made_refused build_image (RefusedOf IsUnaccepted) input (files_of held names) refusal (sym (bytes_is names held) ∙ e) in record { missing = v.missing; refused = v.refused };
  some = λ e. cc;
}

pub check_sources_leaves : (names : List (List ℕ)) → LeavesInput (Some (CheckSources names))
check_sources_leaves names P files input h = (refl, h)

-- ---- threads

threads_is : (names : List (List ℕ)) (held : Held) → thread_program_or_refusal names held ≡ made_of_files thread_program_of (files_of held names)
unfolding thread_program_or_refusal
threads_is names held = refl

-- a file that is missing or too long
pub threads_unavailable : (names : List (List ℕ)) (line : List ℕ) (held : Option Held)
    → IfSome held (λ h. Err line ≡ files_of h names) → IfSome held (λ h. thread_program_or_refusal names h ≡ Err (record { status = FILE_UNAVAILABLE; line = line }))
threads_unavailable names line None e = tt
threads_unavailable names line (Some h) e = threads_is names h ∙ ap (made_of_files thread_program_of) (sym e)

pub threads_made : (names : List (List ℕ)) (files : List NamedText) (answer : Result ThreadProgramValue (List ℕ)) (held : Option Held)
    → IfSome held (λ h. Ok files ≡ files_of h names) → thread_program_of files ≡ answer → IfSome held (λ h. thread_program_or_refusal names h ≡ or_refusal answer)
threads_made names files answer None e b = tt
threads_made names files answer (Some h) e b = threads_is names h ∙ ap (made_of_files thread_program_of) (sym e) ∙ ap or_refusal b

pub threads_asks : (names : List (List ℕ)) (budget : ℕ) → Asks (Some (RunThreads names budget)) (thread_program_or_refusal names) (ThreadsBytesReports budget) RefusesThreaded
threads_asks names budget = record {
  reports = λ held input r h. h;
  fits = λ held input made s e w. let v = made_fits thread_program_of RefusesThreaded input (files_of held names) made s (sym (threads_is names held) ∙ e) w in record { missing = v.missing; refused = v.refused };
  lacks = λ held input refusal e. let v = made_refused thread_program_of RefusesThreaded input (files_of held names) refusal (sym (threads_is names held) ∙ e) in record { missing = v.missing; refused = v.refused };
  some = λ e. cc;
}

pub threads_reads : (names : List (List ℕ)) (budget : ℕ) → Reads (Some (RunThreads names budget))
threads_reads names budget P files input left h = h

-- ---- GNU's tables

gnu_is : (names : List (List ℕ)) (held : Held) → gnu_program_or_refusal names held ≡ made_of_files gnu_program_of_last (files_of held names)
unfolding gnu_program_or_refusal
gnu_is names held = refl

-- a file that is missing or too long
pub gnu_unavailable : (names : List (List ℕ)) (line : List ℕ) (held : Option Held)
    → IfSome held (λ h. Err line ≡ files_of h names) → IfSome held (λ h. gnu_program_or_refusal names h ≡ Err (record { status = FILE_UNAVAILABLE; line = line }))
gnu_unavailable names line None e = tt
gnu_unavailable names line (Some h) e = gnu_is names h ∙ ap (made_of_files gnu_program_of_last) (sym e)

pub gnu_made : (names : List (List ℕ)) (files : List NamedText) (answer : Result GnuProgramValue (List ℕ)) (held : Option Held)
    → IfSome held (λ h. Ok files ≡ files_of h names) → gnu_program_of_last files ≡ answer → IfSome held (λ h. gnu_program_or_refusal names h ≡ or_refusal answer)
gnu_made names files answer None e b = tt
gnu_made names files answer (Some h) e b = gnu_is names h ∙ ap (made_of_files gnu_program_of_last) (sym e) ∙ ap or_refusal b

pub gnu_asks : (name : List ℕ) (budget : ℕ) → Asks (Some (RunGnu name budget)) (gnu_program_or_refusal (name ∷ [])) (GnuBytesReports budget) RefusesRewritten
gnu_asks name budget = let names = name ∷ [] in record {
  reports = λ held input r h. h;
  fits = λ held input made s e w. let v = made_fits gnu_program_of_last RefusesRewritten input (files_of held names) made s (sym (gnu_is names held) ∙ e) w in record { missing = v.missing; refused = v.refused };
  lacks = λ held input refusal e. let v = made_refused gnu_program_of_last RefusesRewritten input (files_of held names) refusal (sym (gnu_is names held) ∙ e) in record { missing = v.missing; refused = v.refused };
  some = λ e. cc;
}

pub gnu_reads : (name : List ℕ) (budget : ℕ) → Reads (Some (RunGnu name budget))
gnu_reads name budget P files input left h = h
