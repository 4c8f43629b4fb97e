-- The report of `gnu` (docs/guide/command-line.md): the GNU C++ unwind tables of an image are rewritten, and the rewritten image is run if it is
-- accepted.
use Rattle.std.specs.Prelude.{ℕ, ◌≡◌, List, [], ◌∷◌, Option, Some, None, Result, Ok, Err}
use Rattle.std.specs.Result.{result_map_both}
use Rattle.eh_bus.specs.Segment.{AreBytes}
use Rattle.eh_index.specs.Refusal.{index_refusal}
use Rattle.eh_index.specs.declared.fault.IndexFault.{IndexFault}
use Rattle.run_events.specs.Laws.{SameRan}
use Rattle.run_events.specs.Runs.{Ran, machine_run}
use Rattle.eh_gates.specs.State.{State}
use Rattle.sim_machines.specs.Activations.{Recorded, recorded_start}
use Rattle.sim_machines.specs.Checked.{program_of}
use Rattle.sim_machines.specs.Start.{start_of}
use Rattle.elf_image.specs.Image.{Image, image_of}
use Rattle.elf_image.specs.declared.fault.ImageFault.{ImageFault}
use Rattle.frame_check.specs.Accepts.{Accepted}
use Rattle.gnu_index.specs.declared.refusal.GnuFault.{GnuFault}
use Rattle.gnu_machine.specs.GnuMachine.{gnu_machine_of, recorded_gnu_machine}
use Rattle.gnu_rewrite.specs.Parts.{new_parts, new_tables}
use Rattle.gnu_rewrite.specs.Refusal.{translation_refusal}
use Rattle.cmd_lines.specs.CheckText.{index_line}
use Rattle.cmd_lines.specs.TablesText.{tables_line}
use Rattle.cmd_lines.specs.Text.{image_fault_line}
use Rattle.thumb_core.specs.declared.ends.End.{End}
use Rattle.cmd_input.specs.Accepting.{BytesReportsBy, IsUnaccepted}
use Rattle.cmd_perform.specs.BothRuns.{HaveSameEvents, bytes_events, recorded_events}
use Rattle.cmd_input.specs.Building.{files_of, made_of_files, written_bytes}
use Rattle.cmd_input.specs.Finding.{FoundReports}
use Rattle.cmd_input.specs.Loading.{Report}
use Rattle.cmd_perform.specs.RunReport.{run_report}
use Rattle.cmd_input.specs.Sources.{NamedText, Refusal}
use Rattle.cmd_perform.specs.ThreadsReport.{last_file}
use Rattle.cmd_perform.specs.Unfit.{RefusedFiles}
use Rattle.cmd_perform.specs.Yields.{RefusedOf}
use Rattle.cmd_perform.specs.declared.gnu.GnuProgram.{GnuProgram}

-- ---- the contents of a file

-- the bytes of the rewritten image, and the filters of its catches
pub record GnuProgramValue : Type 0 where
  pub bytes : List ℕ
  pub filters : List (ℕ × ℕ)

-- .. as the program represents them
abbrev pub gnu_program_view : GnuProgram → GnuProgramValue
gnu_program_view p = record { bytes = p.image.items; filters = p.filters.items }

abbrev pub with_filters : List (ℕ × ℕ) → List ℕ → GnuProgramValue
with_filters filters bytes = record { bytes = bytes; filters = filters }

-- given why the tables are refused
abbrev pub by_tables : Image → Option GnuFault → Result GnuProgramValue (List ℕ)
by_tables image (Some fault) = Err (tables_line fault)
by_tables image None = result_map_both (with_filters (new_tables image).filters) (λ line. line) (written_bytes (new_parts image))

-- .. and before that, why the index is refused
abbrev pub by_index : Image → Option IndexFault → Result GnuProgramValue (List ℕ)
by_index image (Some fault) = Err (index_line fault)
by_index image None = by_tables image (translation_refusal image)

-- .. and first, why the bytes are refused
abbrev pub by_image : Result Image ImageFault → Result GnuProgramValue (List ℕ)
by_image (Ok image) = by_index image (index_refusal image)
by_image (Err fault) = Err (image_fault_line fault)

-- the rewritten image of these bytes, or the line of the first refusal: of the bytes, of the index, or of the tables
unfoldable pub rewritten_bytes : List ℕ → Result GnuProgramValue (List ℕ)
rewritten_bytes bytes = by_image (image_of bytes)

-- the command names one file
unfoldable pub gnu_program_of_last : List NamedText → Result GnuProgramValue (List ℕ)
gnu_program_of_last files = rewritten_bytes ((last_file files).text)

unfoldable pub gnu_program_or_refusal : List (List ℕ) → List (List ℕ × List ℕ) → Result GnuProgramValue Refusal
gnu_program_or_refusal names files = made_of_files gnu_program_of_last (files_of files names)

-- ---- an accepted image

-- the run over bytes, which gives landing pads what GNU code expects
abbrev pub bytes_gnu_run : List (ℕ × ℕ) → ℕ → Accepted → List ℕ → Ran State End
bytes_gnu_run filters budget a input = machine_run (gnu_machine_of (program_of a) filters) budget (start_of (program_of a)) input

-- .. and with recorded activations
abbrev pub recorded_gnu_run : List (ℕ × ℕ) → ℕ → Accepted → List ℕ → Ran Recorded End
recorded_gnu_run filters budget a input = machine_run (recorded_gnu_machine (program_of a) filters) budget (recorded_start (program_of a)) input

unfoldable pub gnu_report : List (ℕ × ℕ) → ℕ → Accepted → List ℕ → Report
gnu_report filters budget a input = run_report bytes_events a (bytes_gnu_run filters budget a input)

unfoldable pub recorded_gnu_report : List (ℕ × ℕ) → ℕ → Accepted → List ℕ → Report
recorded_gnu_report filters budget a input = run_report recorded_events a (recorded_gnu_run filters budget a input)

-- on an input of bytes both have the same output, the same end, the same rest of the input, and last states with the same events
abbrev pub GnuSame : List (ℕ × ℕ) → Accepted → Type 0
GnuSame filters a = (budget : ℕ) (input : List ℕ) → AreBytes input
    → SameRan HaveSameEvents (bytes_gnu_run filters budget a input) (recorded_gnu_run filters budget a input)

-- r is the report of the run of an accepted rewritten image, over bytes; and, if the numbers of the input are bytes, with recorded
-- activations too
pub record GnuAccepted (filters : List (ℕ × ℕ)) (budget : ℕ) (a : Accepted) (input : List ℕ) (r : Report) : Type 0 where
  pub is : r ≡ gnu_report filters budget a input
  pub recorded : AreBytes input → r ≡ recorded_gnu_report filters budget a input

-- ---- the command

-- for the bytes of a rewritten image
abbrev pub GnuBytesReports : ℕ → GnuProgramValue → List ℕ → Report → Type 0
GnuBytesReports budget g = BytesReportsBy (GnuAccepted g.filters budget) g.bytes

-- for the file
abbrev pub GnuReports : List ℕ → ℕ → List (List ℕ × List ℕ) → List ℕ → Report → Type 0
GnuReports name budget files input r = FoundReports (GnuBytesReports budget) (gnu_program_or_refusal (name ∷ []) files) input r

-- ---- what is refused

-- a rewritten image that isn't accepted, whatever the input is
abbrev pub RefusesRewritten : GnuProgramValue → Option (List ℕ) → ℕ → Type 0
RefusesRewritten g = RefusedOf IsUnaccepted g.bytes

-- .. and bytes that can't be rewritten
abbrev pub RefusedGnu : Result (List NamedText) (List ℕ) → Option (List ℕ) → ℕ → Type 0
RefusedGnu = RefusedFiles gnu_program_of_last RefusesRewritten
