-- What the report of each command is made of.
use Rattle.std.specs.Prelude.{take, not, ◌-◌, length}
use Rattle.std.proofs.Math.Seq.{take-append_seam}
use Rattle.std.proofs.lemmas.Bool.Decides.{Decides-eqb}
use Rattle.std.proofs.lemmas.List.{get_or_push, length-append}
use Rattle.std.proofs.lemmas.Slice.Eq.{ends_is}
use Rattle.std.proofs.Common.{◌≡◌, ◌+◌, ℕ, Bool, true, false, List, [], ◌∷◌, ◌++◌, codes, Result, None, Some, Ok, Err, refl, sym, ap, subst, ◌∙◌, arith}
use Rattle.eh_port.specs.FileList.{answer_of}
use Rattle.eh_port.specs.declared.files.FileAnswer.{FileAnswer}
use Rattle.eh_port.specs.declared.files.FileAnswer.TheVariants.{Found, Missing, TooLong as FileTooLong}
use Rattle.elf_image.specs.Image.{Image, image_of}
use Rattle.elf_image.specs.declared.fault.ImageFault.{ImageFault}
use Rattle.frame_check.specs.Accepts.{Accepted, IsAccepted, Refuses}
use Rattle.frame_check.specs.declared.fault.CheckFault.{CheckFault}
use Rattle.frame_check.specs.declared.fault.CheckFault.TheVariants as check
use Rattle.run_images.specs.Start.{code_start}
use Rattle.run_flat.specs.Machine.{flat_run_result}
use Rattle.cmd_input.specs.Accepting.{IsFound, IsRejected, check_fault_line, no_image_report, rejected_report, BytesReportsBy}
use Rattle.cmd_input.proofs.BytesCases.{by_bytes}
use Rattle.cmd_lines.specs.Text.{after_blank, image_fault_line, refusal_line}
use Rattle.cmd_perform.specs.BuildReport.{plain_report, build_report}
use Rattle.cmd_input.specs.Building.{found_text, file_of, files_of, build_image, or_refusal, made_of_files, image_bytes}
use Rattle.cmd_perform.specs.CheckReport.{ChecksAccepted}
use Rattle.cmd_input.specs.Finding.{bytes_of_answer, file_bytes, found_report, FoundReports}
use Rattle.cmd_perform.specs.FlatReport.{code_report, flat_report}
use Rattle.cmd_perform.specs.GenerateReport.{CountsAccepted}
use Rattle.cmd_input.specs.Loading.{Report}
use Rattle.cmd_perform.specs.Report.{Reports}
use Rattle.cmd_input.specs.Sources.{NamedText, Refusal, and_rest, all_answers}
use Rattle.std.specs.Result.{result_map_both}
use Rattle.eh_index.specs.Refusal.{index_refusal}
use Rattle.eh_index.specs.declared.fault.IndexFault.{IndexFault}
use Rattle.eh_word.specs.Address.{address_text}
use Rattle.elf_write.specs.Layout.{write_result}
use Rattle.gnu_index.specs.declared.refusal.GnuFault.{GnuFault}
use Rattle.gnu_index.specs.declared.refusal.GnuFault.TheVariants.{Entry, TooLarge, OutOfMemory}
use Rattle.gnu_lsda.specs.declared.fault.EntryFault.{EntryFault}
use Rattle.gnu_lsda.specs.declared.fault.EntryFault.TheVariants.{Personality, Short, Format, Order, Filter, Chain, TooLong}
use Rattle.gnu_rewrite.specs.Parts.{new_parts, new_tables}
use Rattle.gnu_rewrite.specs.Refusal.{translation_refusal}
use Rattle.cmd_lines.specs.CheckText.{index_line}
use Rattle.cmd_lines.specs.TablesText.{entry_name, tables_line}
use Rattle.cmd_perform.specs.GnuReport.{GnuAccepted, GnuBytesReports, GnuProgramValue, by_image, by_index, by_tables, gnu_program_or_refusal, rewritten_bytes, gnu_program_of_last, with_filters}
use Rattle.cmd_input.specs.RefusalText.{schedule_line}
use Rattle.cmd_perform.specs.ThreadsReport.{ThreadsAccepted, ThreadsBytesReports, digits_of, is_image, last_file, no_file as empty_file, program_bytes, thread_program_of, thread_program_from, thread_program_or_refusal}
use Rattle.thread_schedule.specs.Schedules.{schedule_of}
use Rattle.cmd_perform.specs.TaskReport.{TaskReports, DoesTask, RunBytesReports}
use Rattle.cmd_input.specs.Words.{Command, FlatFile, BuildSources, CheckFile, CheckSources, RunFile, RunSources, RunGnu, RunThreads, GenerateProgram, is_source}
use Rattle.cmd_input.specs.declared.words.Task.{Task}
use Rattle.cmd_input.specs.declared.words.Task.TheVariants.{Run, Walk, Force}
use Rattle.cmd_report_laws.specs.Written.{ReportsAreWritten, RunEnds}
use Rattle.cmd_report_laws.specs.Commands.{line_of, ReportOfBytes, SaysAccepted, SaysTask, SaysCounts, SaysGnu, SaysThreads, IsRefusedBy, lsda_line, lsda_name, OfFile, AreThere, OfSources, IsFirst, IsSource, program, ThreadsAreTold, CommandsAreTold}

-- ---- bytes

-- what is read of bytes, or another image where they stand for none
image_in : Image → Result Image ImageFault → Image
image_in other (Ok image) = image
image_in other (Err fault) = other

fault_in : ImageFault → Result Image ImageFault → ImageFault
fault_in other (Ok image) = other
fault_in other (Err fault) = fault

IsImage : Result Image ImageFault → Type 0
IsImage (Ok image) = Unit {0}
IsImage (Err fault) = ⊥

-- bytes don't stand for an image and for none
not_both : (bytes : List ℕ) (image : Image) (fault : ImageFault) → image_of bytes ≡ Ok image → image_of bytes ≡ Err fault → ⊥
unfolding IsImage
not_both bytes image fault e f = subst IsImage (sym e ∙ f) tt

one_image : (bytes : List ℕ) (one other : Image) → image_of bytes ≡ Ok one → image_of bytes ≡ Ok other → one ≡ other
unfolding image_in
one_image bytes one other e f = ap (image_in one) (sym e ∙ f)

one_fault : (bytes : List ℕ) (one other : ImageFault) → image_of bytes ≡ Err one → image_of bytes ≡ Err other → one ≡ other
unfolding fault_in
one_fault bytes one other e f = ap (fault_in one) (sym e ∙ f)

refused_with : List ℕ → List ℕ → Report
refused_with input line = record { text = line; status = 3; left = input }

same_line : (fault : CheckFault) → check_fault_line fault ≡ line_of fault
same_line (check.Index fault) = refl
same_line (check.Function rejected) = refl
same_line (check.Types fault) = refl
same_line check.OutOfMemory = refl

module _ (Before : Accepted → List ℕ → Report → Type 0) (Says : Accepted → Report → Type 0) (bytes input : List ℕ) (r : Report) (so : (a : Accepted) → Before a input r → Says a r) where
  of_accepted : (a : Accepted) → IsFound bytes a → Before a input r → ReportOfBytes Says bytes input r
  of_accepted a found h = record {
    no_image = λ fault e. absurd (not_both bytes a.image fault found.image e);
    accepted = λ image e _. record { found = a; of_it = one_image bytes a.image image found.image e; sound = found.sound; says = so a h };
    unaccepted = λ image e never. absurd (never (subst IsAccepted (one_image bytes a.image image found.image e)
        (record { index = found.sound.index; functions = found.sound.functions; types = a.types; graph = found.sound.graph })));
  }

  of_no_image : (fault : ImageFault) → image_of bytes ≡ Err fault → r ≡ no_image_report fault input → ReportOfBytes Says bytes input r
  unfolding refused_with
  of_no_image fault is h = record {
    no_image = λ other e. h ∙ ap (λ (f : ImageFault). refused_with input (image_fault_line f)) (one_fault bytes fault other is e);
    accepted = λ image e _. absurd (not_both bytes image fault e is);
    unaccepted = λ image e _. absurd (not_both bytes image fault e is);
  }

  of_rejected : (fault : CheckFault) → IsRejected bytes fault → r ≡ rejected_report fault input → ReportOfBytes Says bytes input r
  unfolding refused_with
  of_rejected fault is h = record {
    no_image = λ other e. absurd (not_both bytes is.image other is.is e);
    accepted = λ image e accepted. absurd (is.unaccepted (subst IsAccepted (one_image bytes image is.image e is.is) accepted));
    unaccepted = λ image e _. record {
      fault = fault;
      stands = subst (λ (i : Image). Refuses i fault) (one_image bytes is.image image is.is e) is.stands;
      line = h ∙ ap (refused_with input) (same_line fault);
    };
  }

  told : BytesReportsBy Before bytes input r → ReportOfBytes Says bytes input r
  told h = by_bytes Before bytes input r (ReportOfBytes Says bytes input r) of_accepted of_no_image of_rejected h

says_task : ReportsAreWritten → (t : Task) (budget : ℕ) (a : Accepted) (input : List ℕ) (r : Report) → TaskReports t budget a input r → SaysTask t budget input a r
says_task w Run budget a input r h = (w.run budget a input r h, λ bytes. (w.run_recorded budget a input r h bytes, w.guarded budget a input r h bytes))
says_task w Walk budget a input r h = (w.walk budget a input r h, w.walk_recorded budget a input r h)
says_task w (Force number) budget a input r h = (w.force number budget a input r h, w.force_recorded number budget a input r h)

checks : (bytes input : List ℕ) (r : Report) → BytesReportsBy ChecksAccepted bytes input r → ReportOfBytes (SaysAccepted input) bytes input r
checks bytes input r h = told ChecksAccepted (SaysAccepted input) bytes input r (λ a e. e) h

runs : ReportsAreWritten → (t : Task) (budget : ℕ) (bytes input : List ℕ) (r : Report) → RunBytesReports (record { task = t; budget = budget }) bytes input r → ReportOfBytes (SaysTask t budget input) bytes input r
runs w t budget bytes input r h = told (DoesTask (record { task = t; budget = budget })) (SaysTask t budget input) bytes input r (λ a e. says_task w t budget a input r e) h

counts : ReportsAreWritten → (bytes input : List ℕ) (r : Report) → BytesReportsBy CountsAccepted bytes input r → ReportOfBytes (SaysCounts input) bytes input r
counts w bytes input r h = told CountsAccepted (SaysCounts input) bytes input r (λ a e. (w.gen a input r e, w.gen_recorded a input r e)) h

-- ---- bytes that are there, or not

module _ {T : Type 0} (Says : T → List ℕ → Report → Type 0) (answer : Result T Refusal) (input : List ℕ) (r : Report) where
  there : (made : T) → answer ≡ Ok made → FoundReports Says answer input r → Says made input r
  there made e h = subst (λ a. FoundReports Says a input r) e h

  lacking : (refusal : Refusal) → answer ≡ Err refusal → FoundReports Says answer input r → r ≡ record { text = refusal.line; status = refusal.status; left = input }
  lacking refusal e h = subst (λ a. FoundReports Says a input r) e h

-- ---- one file

file_is : (name : List ℕ) (files : List (List ℕ × List ℕ)) (answer : FileAnswer) → answer_of files name 4194304 ≡ answer → file_bytes name files ≡ bytes_of_answer name answer
unfolding file_bytes
file_is name files answer e = ap (bytes_of_answer name) e

flat_is : (name : List ℕ) (budget : ℕ) (files : List (List ℕ × List ℕ)) (input : List ℕ) (answer : Result (List ℕ) Refusal) → file_bytes name files ≡ answer
    → flat_report name budget files input ≡ found_report (code_report budget) answer input
unfolding flat_report
flat_is name budget files input answer e = ap (λ a. found_report (code_report budget) a input) e

refused_by : Refusal → Result (List ℕ) Refusal → Refusal
refused_by other (Ok bytes) = other
refused_by other (Err refusal) = refusal

-- the rewritten image of a file, where there is none
gnu_lack : (name : List ℕ) (answer : FileAnswer) (refusal : Refusal) → bytes_of_answer name answer ≡ Err refusal
    → made_of_files gnu_program_of_last (and_rest (found_text name answer) (Ok [])) ≡ Err refusal
unfolding refused_by
gnu_lack name (Found bytes) refusal e = absurd (cc)
gnu_lack name Missing refusal e = ap (λ a. Err (refused_by refusal a)) e
gnu_lack name FileTooLong refusal e = ap (λ a. Err (refused_by refusal a)) e

gnu_lacks : (name : List ℕ) (files : List (List ℕ × List ℕ)) (refusal : Refusal) → file_bytes name files ≡ Err refusal → gnu_program_or_refusal (name ∷ []) files ≡ Err refusal
unfolding gnu_program_or_refusal file_bytes all_answers
gnu_lacks name files refusal e = gnu_lack name (answer_of files name 4194304) refusal e

no_file : (command : Command) (name : List ℕ) (files : List (List ℕ × List ℕ)) (input : List ℕ) (r : Report) (refusal : Refusal)
    → OfFile command name → file_bytes name files ≡ Err refusal → Reports (Some command) files input r → r ≡ record { text = refusal.line; status = refusal.status; left = input }
no_file (FlatFile file budget) name files input r refusal of e h = h ∙ flat_is file budget files input (Err refusal) (ap (λ n. file_bytes n files) of ∙ e)
no_file (BuildSources names) name files input r refusal of e h = absurd of
no_file (CheckFile file) name files input r refusal of e h =
    lacking (BytesReportsBy ChecksAccepted) (file_bytes file files) input r refusal (ap (λ n. file_bytes n files) of ∙ e) h
no_file (CheckSources names) name files input r refusal of e h = absurd of
no_file (RunFile file request) name files input r refusal of e h =
    lacking (RunBytesReports request) (file_bytes file files) input r refusal (ap (λ n. file_bytes n files) of ∙ e) h
no_file (RunSources names request) name files input r refusal of e h = absurd of
no_file (RunGnu file budget) name files input r refusal of e h =
    lacking (GnuBytesReports budget) (gnu_program_or_refusal (file ∷ []) files) input r refusal (gnu_lacks file files refusal (ap (λ n. file_bytes n files) of ∙ e)) h
no_file (RunThreads names budget) name files input r refusal of e h = absurd of
no_file (GenerateProgram number functions) name files input r refusal of e h = absurd of

flat_code : (name : List ℕ) (budget : ℕ) (files : List (List ℕ × List ℕ)) (code input : List ℕ) (r : Report)
    → answer_of files name 4194304 ≡ Found code → Reports (Some (FlatFile name budget)) files input r → r ≡ code_report budget code input
flat_code name budget files code input r e h = h ∙ flat_is name budget files input (Ok code) (file_is name files (Found code) e)

-- ---- sources

all_there : (files : List (List ℕ × List ℕ)) (names : List (List ℕ)) (sources : List NamedText) → AreThere files names sources → files_of files names ≡ Ok sources
unfolding all_answers
all_there files [] [] h = refl
all_there files [] (source ∷ sources) h = absurd h
all_there files (name ∷ names) [] h = absurd h
all_there files (name ∷ names) (source ∷ sources) h =
    ap (λ a. and_rest (found_text name a) (all_answers (file_of files) names)) h.1
    ∙ ap (and_rest (found_text name (Found source.text))) (all_there files names sources h.2)
    ∙ ap (λ n. and_rest (found_text n (Found source.text)) (Ok sources)) (sym h.0)

first_lacks : (files : List (List ℕ × List ℕ)) (before after : List (List ℕ)) (sources : List NamedText) (name : List ℕ) (answer : FileAnswer) (line : List ℕ)
    → AreThere files before sources → answer_of files name 4194304 ≡ answer → found_text name answer ≡ Err line → files_of files (before ++ name ∷ after) ≡ Err line
unfolding all_answers
first_lacks files [] after [] name answer line h e f =
    ap (λ a. and_rest (found_text name a) (all_answers (file_of files) after)) e ∙ ap (λ a. and_rest a (all_answers (file_of files) after)) f
first_lacks files [] after (source ∷ sources) name answer line h e f = absurd h
first_lacks files (one ∷ before) after [] name answer line h e f = absurd h
first_lacks files (one ∷ before) after (source ∷ sources) name answer line h e f =
    ap (λ a. and_rest (found_text one a) (all_answers (file_of files) (before ++ name ∷ after))) h.1
    ∙ ap (and_rest (found_text one (Found source.text))) (first_lacks files before after sources name answer line h.2 e f)

-- the bytes of an image that is built of files
image_there : (files : List (List ℕ × List ℕ)) (names : List (List ℕ)) (sources : List NamedText) → AreThere files names sources → image_bytes names files ≡ or_refusal (build_image sources)
unfolding image_bytes
image_there files names sources h = ap (made_of_files build_image) (all_there files names sources h)

image_lacks : (files : List (List ℕ × List ℕ)) (names : List (List ℕ)) (name line : List ℕ) (answer : FileAnswer) → IsFirst files names name answer → found_text name answer ≡ Err line
    → image_bytes names files ≡ Err (record { status = 10; line = line })
unfolding image_bytes
image_lacks files names name line answer f e =
    ap (λ l. made_of_files build_image (files_of files l)) f.is ∙ ap (made_of_files build_image) (first_lacks files f.before f.after f.sources name answer line f.there f.answer_is e)

build_is : (names : List (List ℕ)) (files : List (List ℕ × List ℕ)) (input : List ℕ) (answer : Result (List ℕ) Refusal) → image_bytes names files ≡ answer
    → build_report names files input ≡ found_report plain_report answer input
unfolding build_report
build_is names files input answer e = ap (λ a. found_report plain_report a input) e

no_image_of : (command : Command) (names : List (List ℕ)) (files : List (List ℕ × List ℕ)) (input : List ℕ) (r : Report) (refusal : Refusal)
    → OfSources command names → image_bytes names files ≡ Err refusal → Reports (Some command) files input r → r ≡ record { text = refusal.line; status = refusal.status; left = input }
no_image_of (FlatFile name budget) names files input r refusal of e h = absurd of
no_image_of (BuildSources sources) names files input r refusal of e h = h ∙ build_is sources files input (Err refusal) (ap (λ n. image_bytes n files) of ∙ e)
no_image_of (CheckFile name) names files input r refusal of e h = absurd of
no_image_of (CheckSources sources) names files input r refusal of e h =
    lacking (BytesReportsBy ChecksAccepted) (image_bytes sources files) input r refusal (ap (λ n. image_bytes n files) of ∙ e) h
no_image_of (RunFile name request) names files input r refusal of e h = absurd of
no_image_of (RunSources sources request) names files input r refusal of e h =
    lacking (RunBytesReports request) (image_bytes sources files) input r refusal (ap (λ n. image_bytes n files) of ∙ e) h
no_image_of (RunGnu name budget) names files input r refusal of e h = absurd of
no_image_of (RunThreads sources budget) names files input r refusal of e h = absurd of
no_image_of (GenerateProgram number functions) names files input r refusal of e h = absurd of

-- ---- threads

run_as_threads : ReportsAreWritten → (digits : List ℕ) (budget : ℕ) (bytes input : List ℕ) (r : Report) → BytesReportsBy (ThreadsAccepted digits budget) bytes input r
    → ReportOfBytes (SaysThreads digits budget input) bytes input r
run_as_threads w digits budget bytes input r h = told (ThreadsAccepted digits budget) (SaysThreads digits budget input) bytes input r (λ a e. (w.threads digits budget a input r e, w.threads_recorded digits budget a input r e)) h

threads_there : (files : List (List ℕ × List ℕ)) (names : List (List ℕ)) (all : List NamedText) → AreThere files names all → thread_program_or_refusal names files ≡ or_refusal (thread_program_of all)
unfolding thread_program_or_refusal
threads_there files names all h = ap (made_of_files thread_program_of) (all_there files names all h)

threads_lack : (files : List (List ℕ × List ℕ)) (names : List (List ℕ)) (name line : List ℕ) (answer : FileAnswer) → IsFirst files names name answer → found_text name answer ≡ Err line
    → thread_program_or_refusal names files ≡ Err (record { status = 10; line = line })
unfolding thread_program_or_refusal
threads_lack files names name line answer f e =
    ap (λ l. made_of_files thread_program_of (files_of files l)) f.is ∙ ap (made_of_files thread_program_of) (first_lacks files f.before f.after f.sources name answer line f.there f.answer_is e)

back : (program : List NamedText) (schedule : NamedText) → length (program ++ schedule ∷ []) - 1 ≡ length program
back program schedule = let size : length (program ++ schedule ∷ []) ≡ length program + 1 = length-append program (schedule ∷ []) in omega (arith, size)

last_is : (program : List NamedText) (schedule : NamedText) → last_file (program ++ schedule ∷ []) ≡ schedule
unfolding last_file
last_is program schedule = rw (back program schedule, get_or_push program schedule empty_file (length program) refl) refl

last_of : (program : List NamedText) (schedule : NamedText) → thread_program_of (program ++ schedule ∷ []) ≡ thread_program_from program schedule
unfolding thread_program_of
last_of program schedule = rw (back program schedule, take-append_seam program (schedule ∷ []), last_is program schedule) refl

unread : (program : List NamedText) (schedule : NamedText) (offset : ℕ) → schedule_of schedule.text ≡ Err offset → thread_program_from program schedule ≡ Err (schedule_line schedule.name offset)
unfolding thread_program_from digits_of
unread program schedule offset e = rw e refl

read_with : (program : List NamedText) (schedule : NamedText) (digits bytes : List ℕ) → schedule_of schedule.text ≡ Ok digits → program_bytes program ≡ Ok bytes
    → thread_program_from program schedule ≡ Ok (record { bytes = bytes; digits = digits })
unfolding thread_program_from digits_of
read_with program schedule digits bytes e f = rw (e, f) refl

read_without : (program : List NamedText) (schedule : NamedText) (digits line : List ℕ) → schedule_of schedule.text ≡ Ok digits → program_bytes program ≡ Err line
    → thread_program_from program schedule ≡ Err line
unfolding thread_program_from digits_of
read_without program schedule digits line e f = rw (e, f) refl

named_source : (name : List ℕ) (t : Bool) → is_source name ≡ t → IsSource name → t ≡ true
named_source name t e s = sym e ∙ (let d = ends_is Decides-eqb name (codes ".s") (is_source name) refl in d.1 s.0 s.1)

named_other : (name : List ℕ) → (IsSource name → ⊥) → is_source name ≡ false
named_other name n = go (is_source name) refl
  where
    go : (t : Bool) → is_source name ≡ t → t ≡ false
    go true e = absurd (n (let d = ends_is Decides-eqb name (codes ".s") (is_source name) refl in (take (length name - 2) name, d.0 e)))
    go false e = refl

no_image : (first : NamedText) (more : List NamedText) → IsSource first.name → is_image (first ∷ more) ≡ false
no_image first [] s = ap not (named_source first.name (is_source first.name) refl s)
no_image first (second ∷ more) s = refl

of_sources : (first : NamedText) (more : List NamedText) → IsSource first.name → program_bytes (first ∷ more) ≡ build_image (first ∷ more)
unfolding program_bytes
of_sources first more s = rw (no_image first more s) refl

of_image : (file : NamedText) → (IsSource file.name → ⊥) → program_bytes (file ∷ []) ≡ Ok file.text
unfolding program_bytes
of_image file n = rw (named_other file.name n) (ap (λ (f : NamedText). Ok f.text) (last_is [] file))

threads_told : ReportsAreWritten → ThreadsAreTold
threads_told w = record {
  missing = λ names budget name files input r first h.
      lacking (ThreadsBytesReports budget) (thread_program_or_refusal names files) input r (record { status = 10; line = name ++ codes ": missing\n" })
      (threads_lack files names name (name ++ codes ": missing\n") Missing first refl) h;
  too_long = λ names budget name files input r first h.
      lacking (ThreadsBytesReports budget) (thread_program_or_refusal names files) input r (record { status = 10; line = name ++ codes ": too long\n" })
      (threads_lack files names name (name ++ codes ": too long\n") FileTooLong first refl) h;
  schedule = λ names budget program schedule offset files input r held e h.
      lacking (ThreadsBytesReports budget) (thread_program_or_refusal names files) input r (record { status = 3; line = schedule_line schedule.name offset })
      (threads_there files names (program ++ schedule ∷ []) held ∙ ap or_refusal (last_of program schedule ∙ unread program schedule offset e)) h;
  refused = λ names budget first more schedule digits line files input r held s e b h.
      lacking (ThreadsBytesReports budget) (thread_program_or_refusal names files) input r (record { status = 3; line = line })
      (threads_there files names ((first ∷ more) ++ schedule ∷ []) held
      ∙ ap or_refusal (last_of (first ∷ more) schedule ∙ read_without (first ∷ more) schedule digits line e (of_sources first more s ∙ b))) h;
  sources = λ names budget first more schedule digits bytes files input r held s e b h.
      run_as_threads w digits budget bytes input r (there (ThreadsBytesReports budget) (thread_program_or_refusal names files) input r (record { bytes = bytes; digits = digits })
      (threads_there files names ((first ∷ more) ++ schedule ∷ []) held
      ∙ ap or_refusal (last_of (first ∷ more) schedule ∙ read_with (first ∷ more) schedule digits bytes e (of_sources first more s ∙ b))) h);
  image = λ names budget file schedule digits files input r held n e h.
      run_as_threads w digits budget file.text input r (there (ThreadsBytesReports budget) (thread_program_or_refusal names files) input r (record { bytes = file.text; digits = digits })
      (threads_there files names (file ∷ schedule ∷ []) held
      ∙ ap or_refusal (last_of (file ∷ []) schedule ∙ read_with (file ∷ []) schedule digits file.text e (of_image file n))) h);
}

-- ---- GNU's tables

gnu_runs : ReportsAreWritten → (filters : List (ℕ × ℕ)) (budget : ℕ) (bytes input : List ℕ) (r : Report) → BytesReportsBy (GnuAccepted filters budget) bytes input r
    → ReportOfBytes (SaysGnu filters budget input) bytes input r
gnu_runs w filters budget bytes input r h = told (GnuAccepted filters budget) (SaysGnu filters budget input) bytes input r (λ a e. (w.gnu filters budget a input r e, w.gnu_recorded filters budget a input r e)) h

entry_lines : (fault : EntryFault) (at : List ℕ)
    → refusal_line (codes "lsda") (entry_name fault) (after_blank at) ≡ codes "lsda: " ++ lsda_name fault ++ codes " " ++ at ++ codes "\n"
entry_lines Personality at = refl
entry_lines Short at = refl
entry_lines Format at = refl
entry_lines Order at = refl
entry_lines Filter at = refl
entry_lines Chain at = refl
entry_lines TooLong at = refl

lines : (fault : GnuFault) → tables_line fault ≡ lsda_line fault
lines (Entry e) = entry_lines e.fault (address_text e.start)
lines TooLarge = refl
lines OutOfMemory = refl

-- the one file
one_file : (source : NamedText) → gnu_program_of_last (source ∷ []) ≡ rewritten_bytes source.text
unfolding gnu_program_of_last
one_file source = ap (λ (f : NamedText). rewritten_bytes f.text) (last_is [] source)

gnu_there : (name : List ℕ) (files : List (List ℕ × List ℕ)) (bytes : List ℕ) (found : Result GnuProgramValue (List ℕ)) → answer_of files name 4194304 ≡ Found bytes → rewritten_bytes bytes ≡ found
    → gnu_program_or_refusal (name ∷ []) files ≡ or_refusal found
unfolding gnu_program_or_refusal
gnu_there name files bytes found e f =
    let source : NamedText = record { name = name; text = bytes } in
    ap (made_of_files gnu_program_of_last) (all_there files (name ∷ []) (source ∷ []) (refl, e, tt)) ∙ ap or_refusal (one_file source ∙ f)

module _ (bytes : List ℕ) where
  unread_image : (fault : ImageFault) → image_of bytes ≡ Err fault → rewritten_bytes bytes ≡ Err (image_fault_line fault)
  unfolding rewritten_bytes
  unread_image fault e = ap by_image e

  read_image : (image : Image) → image_of bytes ≡ Ok image → rewritten_bytes bytes ≡ by_index image (index_refusal image)
  unfolding rewritten_bytes
  read_image image e = ap by_image e

  unread_index : (image : Image) (fault : IndexFault) → image_of bytes ≡ Ok image → index_refusal image ≡ Some fault → rewritten_bytes bytes ≡ Err (index_line fault)
  unread_index image fault e f = read_image image e ∙ ap (by_index image) f

  read_index : (image : Image) → image_of bytes ≡ Ok image → index_refusal image ≡ None → rewritten_bytes bytes ≡ by_tables image (translation_refusal image)
  read_index image e f = read_image image e ∙ ap (by_index image) f

  unread_tables : (image : Image) (fault : GnuFault) → image_of bytes ≡ Ok image → index_refusal image ≡ None → translation_refusal image ≡ Some fault
      → rewritten_bytes bytes ≡ Err (lsda_line fault)
  unread_tables image fault e f g = read_index image e f ∙ ap (by_tables image) g ∙ ap Err (lines fault)

  written : (image : Image) (new : List ℕ) → image_of bytes ≡ Ok image → index_refusal image ≡ None → translation_refusal image ≡ None → write_result (new_parts image) ≡ Ok new
      → rewritten_bytes bytes ≡ Ok (record { bytes = new; filters = (new_tables image).filters })
  written image new e f g h =
      read_index image e f ∙ ap (by_tables image) g
      ∙ ap (λ w. result_map_both (with_filters (new_tables image).filters) (λ line. line) (result_map_both (λ b. b) image_fault_line w)) h

gnu_unread : (name : List ℕ) (budget : ℕ) (files : List (List ℕ × List ℕ)) (bytes line input : List ℕ) (r : Report) → answer_of files name 4194304 ≡ Found bytes
    → rewritten_bytes bytes ≡ Err line → Reports (Some (RunGnu name budget)) files input r → IsRefusedBy line input r
gnu_unread name budget files bytes line input r e f h =
    lacking (GnuBytesReports budget) (gnu_program_or_refusal (name ∷ []) files) input r (record { status = 3; line = line }) (gnu_there name files bytes (Err line) e f) h

-- ---- all

pub commands : ReportsAreWritten → CommandsAreTold
commands w = record {
  files = record {
    missing = λ command name files input r of e h. no_file command name files input r (record { status = 10; line = name ++ codes ": missing\n" }) of (file_is name files Missing e) h;
    too_long = λ command name files input r of e h. no_file command name files input r (record { status = 10; line = name ++ codes ": too long\n" }) of (file_is name files FileTooLong e) h;
    flat = λ name budget files code input r e le h.
        subst (RunEnds (flat_run_result budget (code_start code) input) (codes "\n")) (sym (flat_code name budget files code input r e h)) (w.flat budget code input le);
    flat_large = λ name budget files code input r e lt h. flat_code name budget files code input r e h ∙ w.large budget code input lt;
    check = λ name files bytes input r e h. checks bytes input r (there (BytesReportsBy ChecksAccepted) (file_bytes name files) input r bytes (file_is name files (Found bytes) e) h);
    run = λ task name budget files bytes input r e h.
        runs w task budget bytes input r (there (RunBytesReports (record { task = task; budget = budget })) (file_bytes name files) input r bytes (file_is name files (Found bytes) e) h);
    no_image = λ name budget files bytes input fault r e f h. gnu_unread name budget files bytes (image_fault_line fault) input r e (unread_image bytes fault f) h;
    no_index = λ name budget files bytes input image fault r e f g h. gnu_unread name budget files bytes (index_line fault) input r e (unread_index bytes image fault f g) h;
    no_tables = λ name budget files bytes input image fault r e f g t h. gnu_unread name budget files bytes (lsda_line fault) input r e (unread_tables bytes image fault f g t) h;
    gnu = λ name budget files bytes new input image r e f g t w' h.
        gnu_runs w (new_tables image).filters budget new input r
        (there (GnuBytesReports budget) (gnu_program_or_refusal (name ∷ []) files) input r (record { bytes = new; filters = (new_tables image).filters })
        (gnu_there name files bytes (Ok (record { bytes = new; filters = (new_tables image).filters })) e (written bytes image new f g t w')) h);
  };
  sources = record {
    missing = λ command names name files input r of first h.
        no_image_of command names files input r (record { status = 10; line = name ++ codes ": missing\n" }) of (image_lacks files names name (name ++ codes ": missing\n") Missing first refl) h;
    too_long = λ command names name files input r of first h.
        no_image_of command names files input r (record { status = 10; line = name ++ codes ": too long\n" }) of (image_lacks files names name (name ++ codes ": too long\n") FileTooLong first refl) h;
    refused = λ command names sources line files input r of held e h.
        no_image_of command names files input r (record { status = 3; line = line }) of (image_there files names sources held ∙ ap or_refusal e) h;
    build = λ names sources bytes files input r held e h. h ∙ build_is names files input (Ok bytes) (image_there files names sources held ∙ ap or_refusal e);
    check = λ names sources bytes files input r held e h.
        checks bytes input r (there (BytesReportsBy ChecksAccepted) (image_bytes names files) input r bytes (image_there files names sources held ∙ ap or_refusal e) h);
    run = λ task names budget sources bytes files input r held e h.
        runs w task budget bytes input r
        (there (RunBytesReports (record { task = task; budget = budget })) (image_bytes names files) input r bytes (image_there files names sources held ∙ ap or_refusal e) h);
  };
  threads = threads_told w;
  programs = record {
    refused = λ number functions line files input r e h.
        lacking (BytesReportsBy CountsAccepted) (or_refusal (build_image (program number functions))) input r (record { status = 3; line = line }) (ap or_refusal e) h;
    counted = λ number functions bytes files input r e h.
        counts w bytes input r (there (BytesReportsBy CountsAccepted) (or_refusal (build_image (program number functions))) input r bytes (ap or_refusal e) h);
  };
}
