-- The reports of `run`, `walk` and `force`, for one image and for sources: an accepted image is run, and the task says what for.
use Rattle.std.specs.Prelude.{ℕ, List, Option}
use Rattle.frame_check.specs.Accepts.{Accepted}
use Rattle.cmd_input.specs.Accepting.{BytesReportsBy, IsUnaccepted, RefusedBy}
use Rattle.cmd_input.specs.Building.{image_bytes}
use Rattle.cmd_input.specs.Finding.{file_bytes, FoundReports}
use Rattle.cmd_perform.specs.ForceReport.{ForcesAccepted, IsUnforced}
use Rattle.cmd_input.specs.Loading.{Report}
use Rattle.cmd_perform.specs.RunReport.{RunsAccepted}
use Rattle.cmd_perform.specs.WalkReport.{WalksAccepted}
use Rattle.cmd_perform.specs.Yields.{RefusedWhere, RefusedOf, RefusedOn}
use Rattle.cmd_input.specs.declared.words.Request.{Request}
use Rattle.cmd_input.specs.declared.words.Task.{Task}
use Rattle.cmd_input.specs.declared.words.Task.TheVariants.{Run, Walk, Force}

-- r is the report of an accepted image's run, given its task
abbrev pub TaskReports : Task → ℕ → Accepted → List ℕ → Report → Type 0
TaskReports Run = RunsAccepted
TaskReports Walk = WalksAccepted
TaskReports (Force number) = ForcesAccepted number

abbrev pub DoesTask : Request → Accepted → List ℕ → Report → Type 0
DoesTask request = TaskReports request.task request.budget

-- for bytes
abbrev pub RunBytesReports : Request → List ℕ → List ℕ → Report → Type 0
RunBytesReports request = BytesReportsBy (DoesTask request)

-- for the image in a file
abbrev pub RunReports : List ℕ → Request → List (List ℕ × List ℕ) → List ℕ → Report → Type 0
RunReports name request files input r = FoundReports (RunBytesReports request) (file_bytes name files) input r

-- for the image that `build` writes of sources
abbrev pub RunSourcesReports : List (List ℕ) → Request → List (List ℕ × List ℕ) → List ℕ → Report → Type 0
RunSourcesReports names request files input r = FoundReports (RunBytesReports request) (image_bytes names files) input r

-- ---- what is refused

-- in the run of an accepted image, only the forced unwinding can be refused
abbrev pub TaskPins : Task → ℕ → Accepted → Option (List ℕ) → ℕ → Type 0
TaskPins Run budget a = RefusedWhere ⊥
TaskPins Walk budget a = RefusedWhere ⊥
TaskPins (Force number) budget a = RefusedOn (IsUnforced number budget a)

abbrev pub PinsTask : Request → Accepted → Option (List ℕ) → ℕ → Type 0
PinsTask request = TaskPins request.task request.budget

-- for bytes: if they aren't accepted, whatever the input is
abbrev pub TaskRefuses : Task → ℕ → List ℕ → Option (List ℕ) → ℕ → Type 0
TaskRefuses Run budget = RefusedOf IsUnaccepted
TaskRefuses Walk budget = RefusedOf IsUnaccepted
TaskRefuses (Force number) budget = RefusedBy (TaskPins (Force number) budget)

abbrev pub RunBytesRefuse : Request → List ℕ → Option (List ℕ) → ℕ → Type 0
RunBytesRefuse request = TaskRefuses request.task request.budget
