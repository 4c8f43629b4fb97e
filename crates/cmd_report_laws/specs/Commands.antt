-- What the report of each command consists of (docs/guide/command-line.md, "What is written", "Checks"): the bytes that it works on, what it says
-- of an accepted image, and what of refused files and sources.
use Rattle.std.specs.Prelude.{◌≡◌, ℕ, ◌-◌, ◌<◌, ◌≤◌, List, [], ◌∷◌, ◌++◌, length, codes, decimal, None, Some, Ok, Err}
use Rattle.elf_image.specs.Image.{Image, image_of}
use Rattle.elf_image.specs.declared.fault.ImageFault.{ImageFault}
use Rattle.eh_port.specs.FileList.{answer_of}
use Rattle.eh_port.specs.declared.files.FileAnswer.{FileAnswer}
use Rattle.eh_port.specs.declared.files.FileAnswer.TheVariants.{Found, Missing, TooLong as FileTooLong}
use Rattle.eh_kit.specs.ProgramText.{generated_text}
use Rattle.eh_index.specs.Refusal.{index_refusal}
use Rattle.eh_index.specs.declared.fault.IndexFault.{IndexFault}
use Rattle.eh_word.specs.Address.{address_text}
use Rattle.elf_write.specs.Layout.{write_result}
use Rattle.gnu_index.specs.declared.refusal.GnuFault.{GnuFault}
use Rattle.gnu_index.specs.declared.refusal.GnuFault.TheVariants.{Entry, TooLarge, OutOfMemory}
use Rattle.gnu_lsda.specs.declared.fault.EntryFault.{EntryFault}
use Rattle.gnu_lsda.specs.declared.fault.EntryFault.TheVariants.{Personality, Short, Format, Order, Filter, Chain, TooLong}
use Rattle.gnu_rewrite.specs.Parts.{new_parts, new_tables}
use Rattle.gnu_rewrite.specs.Refusal.{translation_refusal}
use Rattle.frame_check.specs.Accepts.{Accepted, IsAccepted, IsSound, Refuses}
use Rattle.frame_check.specs.declared.fault.CheckFault.{CheckFault}
use Rattle.frame_check.specs.declared.fault.CheckFault.TheVariants as check
use Rattle.run_images.specs.Start.{code_start}
use Rattle.run_flat.specs.Machine.{flat_run_result}
use Rattle.cmd_input.specs.Building.{build_image}
use Rattle.cmd_lines.specs.CheckText.{index_line, cause_line, type_line}
use Rattle.cmd_lines.specs.Text.{image_fault_line}
use Rattle.cmd_input.specs.Loading.{Report}
use Rattle.cmd_perform.specs.Report.{Reports}
use Rattle.cmd_input.specs.Sources.{NamedText}
use Rattle.cmd_input.specs.Words.{Command, FlatFile, BuildSources, CheckFile, CheckSources, RunFile, RunSources, RunGnu, RunThreads, GenerateProgram}
use Rattle.cmd_input.specs.declared.words.Task.{Task}
use Rattle.cmd_input.specs.declared.words.Task.TheVariants.{Run, Walk, Force}
use Rattle.thread_schedule.specs.Schedules.{schedule_of}
use Rattle.cmd_report_laws.specs.Written.{over_bytes, with_activations, IsOfBytes, RunEnds, IsRun, IsWalk, IsForce, IsThreads, IsRecordedThreads, IsGnu, IsRecordedGnu, IsCount, RefusesToStore}

-- ---- what is refused

-- one line, status 3, and the whole input left
abbrev pub IsRefusedBy : List ℕ → List ℕ → Report → Type 0
IsRefusedBy line input r = r ≡ record { text = line; status = 3; left = input }

-- a file that isn't there, or is too long to be read: status 10
abbrev pub IsUnavailableBy : List ℕ → List ℕ → Report → Type 0
IsUnavailableBy line input r = r ≡ record { text = line; status = 10; left = input }

-- ---- bytes

-- The checker's refusal gives the line of the index, of the first refused function with the offset from its start, or of a type. Lack of
-- memory has no report.
abbrev pub line_of : CheckFault → List ℕ
line_of (check.Index fault) = index_line fault
line_of (check.Function rejected) = cause_line rejected.function (rejected.at - rejected.start) rejected.cause
line_of (check.Types fault) = type_line fault
line_of check.OutOfMemory = []

-- this is said of the checker's report on an image
pub record IsSaid (Says : Accepted → Report → Type 0) (image : Image) (r : Report) : Type 0 where
  pub found : Accepted
  pub of_it : found.image ≡ image
  pub sound : IsSound found
  pub says : Says found r

-- an image has the line of a refusal that holds of it
pub record IsRejectedBy (image : Image) (input : List ℕ) (r : Report) : Type 0 where
  pub fault : CheckFault
  pub stands : Refuses image fault
  pub line : IsRefusedBy (line_of fault) input r

-- Bytes that are no image have the line that says why. Bytes that are one have what the command says of an accepted image, or the line that
-- says why it isn't accepted.
pub record ReportOfBytes (Says : Accepted → Report → Type 0) (bytes input : List ℕ) (r : Report) : Type 0 where
  pub no_image : (fault : ImageFault) → image_of bytes ≡ Err fault → IsRefusedBy (image_fault_line fault) input r
  pub accepted : (image : Image) → image_of bytes ≡ Ok image → IsAccepted image → IsSaid Says image r
  pub unaccepted : (image : Image) → image_of bytes ≡ Ok image → (IsAccepted image → ⊥) → IsRejectedBy image input r

-- a refusal of an entry names the start of its function; TooLarge and OutOfMemory name no address
abbrev pub lsda_name : EntryFault → List ℕ
lsda_name Personality = codes "Personality"
lsda_name Short = codes "Short"
lsda_name Format = codes "Format"
lsda_name Order = codes "Order"
lsda_name Filter = codes "Filter"
lsda_name Chain = codes "Chain"
lsda_name TooLong = codes "TooLong"

abbrev pub lsda_line : GnuFault → List ℕ
lsda_line (Entry e) = codes "lsda: " ++ lsda_name e.fault ++ codes " " ++ address_text e.start ++ codes "\n"
lsda_line TooLarge = codes "lsda: TooLarge\n"
lsda_line OutOfMemory = codes "lsda: OutOfMemory\n"

-- ---- the report of an accepted image

-- `check` reports how many functions it has
abbrev pub SaysAccepted : List ℕ → Accepted → Report → Type 0
SaysAccepted input a r = r ≡ record { text = codes "accepted " ++ decimal (length a.image.functions) ++ codes " functions\n"; status = 0; left = input }

-- `run` says how its run went; `walk` and `force` what they find where it reaches a site; over bytes, and on an input of bytes with
-- recorded activations too
abbrev pub SaysTask : Task → ℕ → List ℕ → Accepted → Report → Type 0
SaysTask Run budget input a r = IsRun a (over_bytes a) budget input r × (IsOfBytes input → IsRun a (with_activations a) budget input r × RefusesToStore a input)
SaysTask Walk budget input a r = IsWalk a (over_bytes a) budget input r × (IsOfBytes input → IsWalk a (with_activations a) budget input r)
SaysTask (Force number) budget input a r = IsForce number a (over_bytes a) budget input r × (IsOfBytes input → IsForce number a (with_activations a) budget input r)

-- `threads` says how its run of threads went, by the digits of a schedule, in the same two ways
abbrev pub SaysThreads : List ℕ → ℕ → List ℕ → Accepted → Report → Type 0
SaysThreads digits budget input a r = IsThreads a digits budget input r × (IsOfBytes input → IsRecordedThreads a digits budget input r)

-- `gnu` says how its run went, which gives landing pads what GNU code expects, in the same two ways
abbrev pub SaysGnu : List (ℕ × ℕ) → ℕ → List ℕ → Accepted → Report → Type 0
SaysGnu filters budget input a r = IsGnu a filters budget input r × (IsOfBytes input → IsRecordedGnu a filters budget input r)

-- `gen` says what its run counted, of 1,000,000,000 instructions at most and without input
abbrev pub SaysCounts : List ℕ → Accepted → Report → Type 0
SaysCounts input a r = IsCount a (over_bytes a) input r × IsCount a (with_activations a) input r

-- ---- one file

-- the commands that work on one file
abbrev pub OfFile : Command → List ℕ → Type 0
OfFile (FlatFile file budget) name = file ≡ name
OfFile (BuildSources names) name = ⊥
OfFile (CheckFile file) name = file ≡ name
OfFile (CheckSources names) name = ⊥
OfFile (RunFile file request) name = file ≡ name
OfFile (RunSources names request) name = ⊥
OfFile (RunGnu file budget) name = file ≡ name
OfFile (RunThreads names budget) name = ⊥
OfFile (GenerateProgram number functions) name = ⊥

pub record FilesAreTold : Type 0 where
  pub missing : (command : Command) (name : List ℕ) (files : List (List ℕ × List ℕ)) (input : List ℕ) (r : Report)
      → OfFile command name → answer_of files name 4194304 ≡ Missing → Reports (Some command) files input r → IsUnavailableBy (name ++ codes ": missing\n") input r
  pub too_long : (command : Command) (name : List ℕ) (files : List (List ℕ × List ℕ)) (input : List ℕ) (r : Report)
      → OfFile command name → answer_of files name 4194304 ≡ FileTooLong → Reports (Some command) files input r → IsUnavailableBy (name ++ codes ": too long\n") input r
  pub flat : (name : List ℕ) (budget : ℕ) (files : List (List ℕ × List ℕ)) (code input : List ℕ) (r : Report)
      → answer_of files name 4194304 ≡ Found code → length code ≤ 1048576 → Reports (Some (FlatFile name budget)) files input r
      → RunEnds (flat_run_result budget (code_start code) input) (codes "\n") r
  pub flat_large : (name : List ℕ) (budget : ℕ) (files : List (List ℕ × List ℕ)) (code input : List ℕ) (r : Report)
      → answer_of files name 4194304 ≡ Found code → 1048576 < length code → Reports (Some (FlatFile name budget)) files input r
      → IsRefusedBy (codes "image: TooLarge\n") input r
  pub check : (name : List ℕ) (files : List (List ℕ × List ℕ)) (bytes input : List ℕ) (r : Report)
      → answer_of files name 4194304 ≡ Found bytes → Reports (Some (CheckFile name)) files input r → ReportOfBytes (SaysAccepted input) bytes input r
  pub run : (task : Task) (name : List ℕ) (budget : ℕ) (files : List (List ℕ × List ℕ)) (bytes input : List ℕ) (r : Report)
      → answer_of files name 4194304 ≡ Found bytes → Reports (Some (RunFile name (record { task = task; budget = budget }))) files input r
      → ReportOfBytes (SaysTask task budget input) bytes input r
  -- an image that can't be rewritten: its bytes are none, or its index, its tables or the new image are refused
  pub no_image : (name : List ℕ) (budget : ℕ) (files : List (List ℕ × List ℕ)) (bytes input : List ℕ) (fault : ImageFault) (r : Report)
      → answer_of files name 4194304 ≡ Found bytes → image_of bytes ≡ Err fault → Reports (Some (RunGnu name budget)) files input r
      → IsRefusedBy (image_fault_line fault) input r
  pub no_index : (name : List ℕ) (budget : ℕ) (files : List (List ℕ × List ℕ)) (bytes input : List ℕ) (image : Image) (fault : IndexFault) (r : Report)
      → answer_of files name 4194304 ≡ Found bytes → image_of bytes ≡ Ok image → index_refusal image ≡ Some fault → Reports (Some (RunGnu name budget)) files input r
      → IsRefusedBy (index_line fault) input r
  pub no_tables : (name : List ℕ) (budget : ℕ) (files : List (List ℕ × List ℕ)) (bytes input : List ℕ) (image : Image) (fault : GnuFault) (r : Report)
      → answer_of files name 4194304 ≡ Found bytes → image_of bytes ≡ Ok image → index_refusal image ≡ None → translation_refusal image ≡ Some fault
      → Reports (Some (RunGnu name budget)) files input r → IsRefusedBy (lsda_line fault) input r
  -- otherwise the rewritten image is judged and run
  pub gnu : (name : List ℕ) (budget : ℕ) (files : List (List ℕ × List ℕ)) (bytes new input : List ℕ) (image : Image) (r : Report)
      → answer_of files name 4194304 ≡ Found bytes → image_of bytes ≡ Ok image → index_refusal image ≡ None → translation_refusal image ≡ None
      → write_result (new_parts image) ≡ Ok new → Reports (Some (RunGnu name budget)) files input r
      → ReportOfBytes (SaysGnu (new_tables image).filters budget input) new input r

-- ---- sources

-- the named files are there, with these texts
abbrev pub AreThere : List (List ℕ × List ℕ) → List (List ℕ) → List NamedText → Type 0
AreThere files [] [] = Unit {0}
AreThere files [] (source ∷ sources) = ⊥
AreThere files (name ∷ names) [] = ⊥
AreThere files (name ∷ names) (source ∷ sources) = (source.name ≡ name) × (answer_of files name 4194304 ≡ Found source.text) × AreThere files names sources

-- the commands that work on sources
abbrev pub OfSources : Command → List (List ℕ) → Type 0
OfSources (FlatFile name budget) names = ⊥
OfSources (BuildSources files) names = files ≡ names
OfSources (CheckFile name) names = ⊥
OfSources (CheckSources files) names = files ≡ names
OfSources (RunFile name request) names = ⊥
OfSources (RunSources files request) names = files ≡ names
OfSources (RunGnu name budget) names = ⊥
OfSources (RunThreads files budget) names = ⊥
OfSources (GenerateProgram number functions) names = ⊥

-- a file, and those before it, all of which are there
pub record IsFirst (files : List (List ℕ × List ℕ)) (names : List (List ℕ)) (name : List ℕ) (answer : FileAnswer) : Type 0 where
  pub before : List (List ℕ)
  pub after : List (List ℕ)
  pub sources : List NamedText
  pub is : names ≡ before ++ name ∷ after
  pub there : AreThere files before sources
  pub answer_is : answer_of files name 4194304 ≡ answer

pub record SourcesAreTold : Type 0 where
  pub missing : (command : Command) (names : List (List ℕ)) (name : List ℕ) (files : List (List ℕ × List ℕ)) (input : List ℕ) (r : Report)
      → OfSources command names → IsFirst files names name Missing → Reports (Some command) files input r → IsUnavailableBy (name ++ codes ": missing\n") input r
  pub too_long : (command : Command) (names : List (List ℕ)) (name : List ℕ) (files : List (List ℕ × List ℕ)) (input : List ℕ) (r : Report)
      → OfSources command names → IsFirst files names name FileTooLong → Reports (Some command) files input r → IsUnavailableBy (name ++ codes ": too long\n") input r
  pub refused : (command : Command) (names : List (List ℕ)) (sources : List NamedText) (line : List ℕ) (files : List (List ℕ × List ℕ)) (input : List ℕ) (r : Report)
      → OfSources command names → AreThere files names sources → build_image sources ≡ Err line → Reports (Some command) files input r → IsRefusedBy line input r
  pub build : (names : List (List ℕ)) (sources : List NamedText) (bytes : List ℕ) (files : List (List ℕ × List ℕ)) (input : List ℕ) (r : Report)
      → AreThere files names sources → build_image sources ≡ Ok bytes → Reports (Some (BuildSources names)) files input r → r ≡ record { text = bytes; status = 0; left = input }
  pub check : (names : List (List ℕ)) (sources : List NamedText) (bytes : List ℕ) (files : List (List ℕ × List ℕ)) (input : List ℕ) (r : Report)
      → AreThere files names sources → build_image sources ≡ Ok bytes → Reports (Some (CheckSources names)) files input r → ReportOfBytes (SaysAccepted input) bytes input r
  pub run : (task : Task) (names : List (List ℕ)) (budget : ℕ) (sources : List NamedText) (bytes : List ℕ) (files : List (List ℕ × List ℕ)) (input : List ℕ) (r : Report)
      → AreThere files names sources → build_image sources ≡ Ok bytes → Reports (Some (RunSources names (record { task = task; budget = budget }))) files input r
      → ReportOfBytes (SaysTask task budget input) bytes input r

-- ---- threads: the last file holds the schedule

-- the name of a source ends in `.s`
abbrev pub IsSource : List ℕ → Type 0
IsSource name = (stem : List ℕ) × (name ≡ stem ++ codes ".s")

pub record ThreadsAreTold : Type 0 where
  pub missing : (names : List (List ℕ)) (budget : ℕ) (name : List ℕ) (files : List (List ℕ × List ℕ)) (input : List ℕ) (r : Report)
      → IsFirst files names name Missing → Reports (Some (RunThreads names budget)) files input r → IsUnavailableBy (name ++ codes ": missing\n") input r
  pub too_long : (names : List (List ℕ)) (budget : ℕ) (name : List ℕ) (files : List (List ℕ × List ℕ)) (input : List ℕ) (r : Report)
      → IsFirst files names name FileTooLong → Reports (Some (RunThreads names budget)) files input r → IsUnavailableBy (name ++ codes ": too long\n") input r
  -- a schedule that can't be read, before the program's files are used
  pub schedule : (names : List (List ℕ)) (budget : ℕ) (program : List NamedText) (schedule : NamedText) (offset : ℕ) (files : List (List ℕ × List ℕ)) (input : List ℕ) (r : Report)
      → AreThere files names (program ++ schedule ∷ []) → schedule_of schedule.text ≡ Err offset → Reports (Some (RunThreads names budget)) files input r
      → IsRefusedBy (schedule.name ++ (codes ": BadSchedule " ++ decimal offset ++ codes "\n")) input r
  -- sources
  pub refused : (names : List (List ℕ)) (budget : ℕ) (first : NamedText) (more : List NamedText) (schedule : NamedText) (digits line : List ℕ) (files : List (List ℕ × List ℕ))
      (input : List ℕ) (r : Report)
      → AreThere files names ((first ∷ more) ++ schedule ∷ []) → IsSource first.name → schedule_of schedule.text ≡ Ok digits → build_image (first ∷ more) ≡ Err line
      → Reports (Some (RunThreads names budget)) files input r → IsRefusedBy line input r
  pub sources : (names : List (List ℕ)) (budget : ℕ) (first : NamedText) (more : List NamedText) (schedule : NamedText) (digits bytes : List ℕ) (files : List (List ℕ × List ℕ))
      (input : List ℕ) (r : Report)
      → AreThere files names ((first ∷ more) ++ schedule ∷ []) → IsSource first.name → schedule_of schedule.text ≡ Ok digits → build_image (first ∷ more) ≡ Ok bytes
      → Reports (Some (RunThreads names budget)) files input r → ReportOfBytes (SaysThreads digits budget input) bytes input r
  -- one image
  pub image : (names : List (List ℕ)) (budget : ℕ) (file schedule : NamedText) (digits : List ℕ) (files : List (List ℕ × List ℕ)) (input : List ℕ) (r : Report)
      → AreThere files names (file ∷ schedule ∷ []) → (IsSource file.name → ⊥) → schedule_of schedule.text ≡ Ok digits
      → Reports (Some (RunThreads names budget)) files input r → ReportOfBytes (SaysThreads digits budget input) file.text input r

-- ---- generated programs

abbrev pub program : ℕ → ℕ → List NamedText
program number functions = record { name = codes "generated"; text = generated_text number functions } ∷ []

pub record ProgramsAreTold : Type 0 where
  pub refused : (number functions : ℕ) (line : List ℕ) (files : List (List ℕ × List ℕ)) (input : List ℕ) (r : Report)
      → build_image (program number functions) ≡ Err line → Reports (Some (GenerateProgram number functions)) files input r → IsRefusedBy line input r
  pub counted : (number functions : ℕ) (bytes : List ℕ) (files : List (List ℕ × List ℕ)) (input : List ℕ) (r : Report)
      → build_image (program number functions) ≡ Ok bytes → Reports (Some (GenerateProgram number functions)) files input r → ReportOfBytes (SaysCounts input) bytes input r

-- ---- all

pub record CommandsAreTold : Type 0 where
  pub files : FilesAreTold
  pub sources : SourcesAreTold
  pub threads : ThreadsAreTold
  pub programs : ProgramsAreTold
