-- What the files of `threads` give, from what each part of the way answers.
use Rattle.std.proofs.Common.{◌≡◌, ◌+◌, ◌-◌, ℕ, List, [], ◌∷◌, ◌++◌, Ok, Err, true, false, length, refl, ap, ◌∙◌, arith}
use Rattle.std.proofs.Math.Seq.{take-append_seam}
use Rattle.std.proofs.lemmas.List.{get_or_push, length-append}
use Rattle.thread_schedule.specs.Schedules.{schedule_of}
use Rattle.cmd_input.specs.Building.{build_image}
use Rattle.cmd_input.specs.RefusalText.{schedule_line}
use Rattle.cmd_input.specs.Sources.{NamedText}
use Rattle.cmd_perform.specs.ThreadsReport.{digits_of, is_image, last_file, no_file, program_bytes, thread_program_of, thread_program_from}

-- ---- the bytes of a program's image

pub of_sources : (files : List NamedText) → is_image files ≡ false → program_bytes files ≡ build_image files
unfolding program_bytes
of_sources files no_image = rw no_image refl

pub of_image : (files : List NamedText) → is_image files ≡ true → program_bytes files ≡ Ok ((last_file files).text)
unfolding program_bytes
of_image files image = rw image refl

-- ---- the last of files

back : (rest : List NamedText) (file : NamedText) → length (rest ++ file ∷ []) - 1 ≡ length rest
back rest file = let size : length (rest ++ file ∷ []) ≡ length rest + 1 = length-append rest (file ∷ []) in omega (arith, size)

last_pushed : (rest : List NamedText) (file : NamedText) → last_file (rest ++ file ∷ []) ≡ file
unfolding last_file
last_pushed rest file = rw (back rest file, get_or_push rest file no_file (length rest) refl) refl

pub last_popped : (files rest : List NamedText) (file : NamedText) → files ≡ rest ++ file ∷ [] → last_file files ≡ file
last_popped files rest file e = ap last_file e ∙ last_pushed rest file

pub empty : (files : List NamedText) → length files ≡ 0 → files ≡ []
empty [] e = refl
empty (file ∷ more) e = absurd (omega (arith, e))

pub last_of_none : (files : List NamedText) → files ≡ [] → last_file files ≡ no_file
unfolding last_file
last_of_none files e = rw e refl

-- ---- the digits of a schedule

pub digits_read : (name text digits : List ℕ) → schedule_of text ≡ Ok digits → digits_of (record { name = name; text = text }) ≡ Ok digits
unfolding digits_of
digits_read name text digits e = rw e refl

pub digits_refused : (name text : List ℕ) (at : ℕ) → schedule_of text ≡ Err at → digits_of (record { name = name; text = text }) ≡ Err (schedule_line name at)
unfolding digits_of
digits_refused name text at e = rw e refl

-- ---- both

pub no_digits : (program : List NamedText) (schedule : NamedText) (line : List ℕ) → digits_of schedule ≡ Err line → thread_program_from program schedule ≡ Err line
unfolding thread_program_from
no_digits program schedule line e = rw e refl

pub no_bytes : (program : List NamedText) (schedule : NamedText) (digits line : List ℕ) → digits_of schedule ≡ Ok digits → program_bytes program ≡ Err line → thread_program_from program schedule ≡ Err line
unfolding thread_program_from
no_bytes program schedule digits line e f = rw (e, f) refl

pub both : (program : List NamedText) (schedule : NamedText) (digits bytes : List ℕ) → digits_of schedule ≡ Ok digits → program_bytes program ≡ Ok bytes
    → thread_program_from program schedule ≡ Ok (record { bytes = bytes; digits = digits })
unfolding thread_program_from
both program schedule digits bytes e f = rw (e, f) refl

-- ---- files of which the last holds the schedule

threaded_pushed : (rest : List NamedText) (file : NamedText) → thread_program_of (rest ++ file ∷ []) ≡ thread_program_from rest file
unfolding thread_program_of
threaded_pushed rest file = rw (back rest file, take-append_seam rest (file ∷ []), last_pushed rest file) refl

pub threaded_popped : (files rest : List NamedText) (file : NamedText) → files ≡ rest ++ file ∷ [] → thread_program_of files ≡ thread_program_from rest file
threaded_popped files rest file e = ap thread_program_of e ∙ threaded_pushed rest file

no_text : schedule_of [] ≡ Err 0
unfolding schedule_of
no_text = refl

threaded_empty : thread_program_of [] ≡ Err (schedule_line [] 0)
unfolding thread_program_of last_file
threaded_empty = no_digits [] no_file (schedule_line [] 0) (digits_refused [] [] 0 no_text)

pub threaded_none : (files : List NamedText) → files ≡ [] → thread_program_of files ≡ Err (schedule_line [] 0)
threaded_none files e = ap thread_program_of e ∙ threaded_empty
