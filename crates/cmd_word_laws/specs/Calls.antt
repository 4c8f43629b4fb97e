-- What every call of the program has done, however it ended: what it wrote, why it stopped, and which files it asked for
-- (docs/guide/command-line.md, "Statuses"; docs/rules/memory.md).
use Rattle.std.specs.Prelude.{◌≡◌, ◌⊎◌, ◌↔◌, ℕ, ◌-◌, ◌^◌, ◌<◌, ◌≤◌, List, [], ◌∷◌, ◌++◌, length, Option, Some, None, Ok}
use Rattle.std.specs.List.{fold}
use Rattle.eh_port.specs.FileList.{answer_of}
use Rattle.eh_port.specs.declared.files.FileAnswer.TheVariants.{Found, Missing, TooLong}
use Rattle.elf_image.specs.Image.{Image, image_of}
use Rattle.frame_check.specs.Accepts.{IsAccepted}
use Rattle.cmd_top.specs.Answered.{IsAnswer}
use Rattle.cmd_input.specs.Loading.{Report}
use Rattle.cmd_top.specs.cmd_perform.Report.{Reports}
use Rattle.cmd_input.specs.Words.{Command, FlatFile, BuildSources, CheckFile, CheckSources, RunFile, RunSources, RunGnu, RunThreads, GenerateProgram, command_of}
use Rattle.cmd_top.specs.cmd_perform.Yields.{Streams}
use Rattle.cmd_input.specs.declared.words.Task.TheVariants.{Run, Walk}
use Rattle.cmd_answers.specs.Files.{FileState}
use Rattle.cmd_word_laws.specs.Answers.{IsReported, IsConclusive}

-- a call: its words, what is known before and after it, and its status
pub record Call : Type 0 where
  pub words : List (List ℕ)
  pub files : FileState
  pub files' : FileState
  pub old : Streams
  pub new : Streams
  pub status : ℕ

-- it is a call that the program may make
abbrev pub IsCall : Call → Type 0
IsCall c = IsAnswer c.words c.files c.files' c.old c.new c.status

-- ---- what was written

-- nothing, or a prefix of a report
pub record FirstOf (Says : Report → Type 0) (before now : List ℕ) : Type 0 where
  pub report : Report
  pub is : Says report
  pub written : List ℕ
  pub rest : List ℕ
  pub parts : report.text ≡ written ++ rest
  pub wrote : now ≡ before ++ written

abbrev pub WroteFirst : (Report → Type 0) → List ℕ → List ℕ → Type 0
WroteFirst Says before now = (now ≡ before) ⊎ FirstOf Says before now

-- ---- counts of faults

-- a count rose, or is already the greatest 64-bit number
abbrev pub WentUp : ℕ → ℕ → Type 0
WentUp before now = (before < now) ⊎ (2 ^ 64 - 1 ≤ now)

-- .. or neither
pub record IsSameCount (before now : ℕ) : Type 0 where
  pub is_same : now ≤ before
  pub below : now < 2 ^ 64 - 1

-- ---- files

-- the files that the words name
abbrev pub names_in : Option Command → List (List ℕ)
names_in None = []
names_in (Some (FlatFile name budget)) = name ∷ []
names_in (Some (BuildSources names)) = names
names_in (Some (CheckFile name)) = name ∷ []
names_in (Some (CheckSources names)) = names
names_in (Some (RunFile name request)) = name ∷ []
names_in (Some (RunSources names request)) = names
names_in (Some (RunGnu name budget)) = name ∷ []
names_in (Some (RunThreads names budget)) = names
names_in (Some (GenerateProgram number functions)) = []

-- there is no file of this name, or it has more than 4,194,304 bytes
abbrev pub IsLacking : List (List ℕ × List ℕ) → List ℕ → Type 0
IsLacking held name = (answer_of held name 4194304 ≡ Missing) ⊎ (answer_of held name 4194304 ≡ TooLong)

abbrev pub SomeAreLacking : List (List ℕ × List ℕ) → List (List ℕ) → Type 0
SomeAreLacking held [] = ⊥
SomeAreLacking held (name ∷ names) = IsLacking held name ⊎ SomeAreLacking held names

abbrev pub AllAreHeld : List (List ℕ × List ℕ) → List (List ℕ) → Type 0
AllAreHeld held [] = Unit {0}
AllAreHeld held (name ∷ names) = ((bytes : List ℕ) × (answer_of held name 4194304 ≡ Found bytes)) × AllAreHeld held names

-- exactly these names were asked for, one after the other
abbrev pub AskedFor : Call → List (List ℕ) → Type 0
AskedFor c names = c.files'.asked ≡ fold c.files.with_name c.files.asked names

-- ---- refusals

-- the bytes are no accepted image
abbrev pub AreUnaccepted : List ℕ → Type 0
AreUnaccepted bytes = (image : Image) → image_of bytes ≡ Ok image → IsAccepted image → ⊥

-- ---- calls

pub record CallsAreTold : Type 0 where
  -- if files and input are known, it wrote nothing, or the first bytes of a report
  pub part : (c : Call) (held : List (List ℕ × List ℕ)) (bytes before now : List ℕ)
      → IsCall c → c.files.held ≡ Some held → c.old.input ≡ Some bytes → c.old.output ≡ Some before → c.new.output ≡ Some now
      → WroteFirst (Reports (command_of c.words) held bytes) before now
  -- status 7 comes only if reads of files or of the input failed, 8 only if writes did, and 9 only if nothing failed
  pub read : (c : Call) → IsCall c → c.status ≡ 7 → WentUp c.files.faults c.files'.faults ⊎ WentUp c.old.input_faults c.new.input_faults
  pub write : (c : Call) → IsCall c → c.status ≡ 8 → WentUp c.old.output_faults c.new.output_faults
  pub memory : (c : Call) → IsCall c → c.status ≡ 9
      → (c.files'.faults ≡ c.files.faults) × (c.new.input_faults ≡ c.old.input_faults) × (c.new.output_faults ≡ c.old.output_faults)
  -- if nothing failed it did a whole report, or memory was lacking
  pub whole : (c : Call) (held : List (List ℕ × List ℕ)) (bytes : List ℕ)
      → IsCall c → c.files.held ≡ Some held → c.old.input ≡ Some bytes
      → IsSameCount c.files.faults c.files'.faults → IsSameCount c.old.input_faults c.new.input_faults → IsSameCount c.old.output_faults c.new.output_faults
      → (c.status ≡ 9) ⊎ IsReported c.words held bytes c.old c.new c.status
  -- there is no other status
  pub most : (c : Call) → IsCall c → c.status ≤ 10
  -- status 10 comes of a named file that is missing or too long, whatever the input is
  pub lacking : (c : Call) (held : List (List ℕ × List ℕ))
      → IsCall c → c.files.held ≡ Some held → IsConclusive c.status → (c.status ≡ 10) ↔ SomeAreLacking held (names_in (command_of c.words))
  -- Status 3 comes of a file that isn't accepted or is too large, of sources that can't be built, and of a generated program likewise,
  -- whatever the input is.
  pub unaccepted : (c : Call) (held : List (List ℕ × List ℕ)) (name bytes : List ℕ)
      → IsCall c → c.files.held ≡ Some held → IsConclusive c.status → command_of c.words ≡ Some (CheckFile name) → answer_of held name 4194304 ≡ Found bytes
      → (c.status ≡ 3) ↔ AreUnaccepted bytes
  pub not_run : (c : Call) (held : List (List ℕ × List ℕ)) (name bytes : List ℕ) (budget : ℕ)
      → IsCall c → c.files.held ≡ Some held → IsConclusive c.status
      → (command_of c.words ≡ Some (RunFile name (record { task = Run; budget = budget }))) ⊎ (command_of c.words ≡ Some (RunFile name (record { task = Walk; budget = budget })))
      → answer_of held name 4194304 ≡ Found bytes → (c.status ≡ 3) ↔ AreUnaccepted bytes
  pub too_large : (c : Call) (held : List (List ℕ × List ℕ)) (name bytes : List ℕ) (budget : ℕ)
      → IsCall c → c.files.held ≡ Some held → IsConclusive c.status → command_of c.words ≡ Some (FlatFile name budget) → answer_of held name 4194304 ≡ Found bytes
      → (c.status ≡ 3) ↔ (1048576 < length bytes)
  -- if all files are there they were asked for in order, each once, and no others ..
  pub asked : (c : Call) (held : List (List ℕ × List ℕ))
      → IsCall c → c.files.held ≡ Some held → IsConclusive c.status → AllAreHeld held (names_in (command_of c.words)) → AskedFor c (names_in (command_of c.words))
  -- .. otherwise those up to the first that is missing or too long
  pub asked_up_to : (c : Call) (held : List (List ℕ × List ℕ)) (before after : List (List ℕ)) (name : List ℕ)
      → IsCall c → c.files.held ≡ Some held → IsConclusive c.status → names_in (command_of c.words) ≡ before ++ name ∷ after → AllAreHeld held before → IsLacking held name
      → AskedFor c (before ++ name ∷ [])
