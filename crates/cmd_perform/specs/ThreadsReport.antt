-- The report of `threads` (docs/guide/walks-and-threads.md, "Threads"): an accepted image is run as threads, by the schedule in the last file.
use Rattle.std.specs.Prelude.{ℕ, ◌≡◌, ◌-◌, ◌++◌, Bool, false, not, List, [], ◌∷◌, length, take, slice_index_or, Option, Result, Ok, if◌then◌else◌}
use Rattle.std.specs.Result.{result_map_both}
use Rattle.eh_bus.specs.Segment.{AreBytes}
use Rattle.eh_trace.specs.Text.{trace_text}
use Rattle.eh_trace.specs.Trace.{Trace}
use Rattle.eh_types.specs.Graph.{name_of}
use Rattle.run_events.specs.Runs.{Ran}
use Rattle.frame_check.specs.Accepts.{Accepted}
use Rattle.eh_threads.specs.Elements.{joint_over}
use Rattle.thread_laws.specs.RecordedThreads.{RecordedPlace, threads_at_start, recorded_schedule_run, bytes_observation, recorded_observation}
use Rattle.eh_threads.specs.Schedules.{SchedulePoint, schedule_run}
use Rattle.thread_schedule.specs.Schedules.{schedule_of}
use Rattle.thread_schedule.specs.Tags.{tag_text}
use Rattle.thumb_core.specs.declared.ends.End.{End}
use Rattle.sim_machines.specs.Checked.{program_of}
use Rattle.sim_machines.specs.Start.{start_of}
use Rattle.cmd_input.specs.Accepting.{BytesReportsBy, IsUnaccepted}
use Rattle.cmd_input.specs.Building.{build_image, files_of, made_of_files}
use Rattle.cmd_input.specs.Finding.{FoundReports}
use Rattle.cmd_input.specs.Loading.{Report, ran_report}
use Rattle.cmd_input.specs.RefusalText.{schedule_line}
use Rattle.cmd_input.specs.Sources.{NamedText, Refusal, and_then}
use Rattle.cmd_perform.specs.Text.{trace_head}
use Rattle.cmd_perform.specs.Unfit.{RefusedFiles}
use Rattle.cmd_input.specs.Words.{is_source}
use Rattle.cmd_perform.specs.Yields.{RefusedOf}
use Rattle.cmd_perform.specs.declared.threads.ThreadProgram.{ThreadProgram}

-- ---- what the files hold

-- the bytes of an image, and the digits of a schedule
pub record ThreadProgramValue : Type 0 where
  pub bytes : List ℕ
  pub digits : List ℕ

-- .. as the program represents them
abbrev pub thread_program_view : ThreadProgram → ThreadProgramValue
thread_program_view p = record { bytes = p.image; digits = p.digits.items }

-- there is one file, and it isn't a source
abbrev pub is_image : List NamedText → Bool
is_image [] = false
is_image (file ∷ []) = not (is_source file.name)
is_image (file ∷ second ∷ more) = false

-- the file that stands for none: it has no name and no bytes
abbrev pub no_file : NamedText
no_file = record { name = []; text = [] }

-- the last of some files; if there is none, the file that stands for none
unfoldable pub last_file : List NamedText → NamedText
last_file files = slice_index_or files (length files - 1) no_file

-- the bytes of a program's image: of the one file if it is no source, otherwise of the image built from the sources
unfoldable pub program_bytes : List NamedText → Result (List ℕ) (List ℕ)
program_bytes files = if is_image files then Ok ((last_file files).text) else build_image files

-- the digits of the schedule in a file, or the line of the first byte that isn't allowed
unfoldable pub digits_of : NamedText → Result (List ℕ) (List ℕ)
digits_of file = result_map_both (λ digits. digits) (schedule_line file.name) (schedule_of file.text)

-- the schedule is read before the program's files are used
unfoldable pub thread_program_from : List NamedText → NamedText → Result ThreadProgramValue (List ℕ)
thread_program_from program schedule =
    and_then (digits_of schedule) (λ digits.
    and_then (program_bytes program) (λ bytes. Ok (record { bytes = bytes; digits = digits })))

-- the last file holds the schedule; words without one form no command
unfoldable pub thread_program_of : List NamedText → Result ThreadProgramValue (List ℕ)
thread_program_of files = thread_program_from (take (length files - 1) files) (last_file files)

-- what the files of these names give, or why they give nothing: one is missing or too long, or their contents are refused
unfoldable pub thread_program_or_refusal : List (List ℕ) → List (List ℕ × List ℕ) → Result ThreadProgramValue Refusal
thread_program_or_refusal names files = made_of_files thread_program_of (files_of files names)

-- ---- an accepted image

-- what follows the guest's bytes: the trace of the events, each line with its thread before it
abbrev pub threads_trace : Accepted → Trace → List ℕ → List ℕ
threads_trace a events tags = trace_head ++ tag_text tags (trace_text a.image (name_of a.types) events)

abbrev pub scheduled_trace : Accepted → SchedulePoint → List ℕ
scheduled_trace a s = threads_trace a s.joint.events s.joint.tags

-- the run of threads over bytes, from the start of the program
abbrev pub bytes_threads : List ℕ → ℕ → Accepted → List ℕ → Ran SchedulePoint End
bytes_threads digits budget a input = schedule_run (program_of a) digits budget (joint_over (start_of (program_of a))) input

unfoldable pub accepted_threads : List ℕ → ℕ → Accepted → List ℕ → Report
accepted_threads digits budget a input = ran_report (scheduled_trace a) (bytes_threads digits budget a input)

-- the run of threads with recorded activations: each thread's returns and throws use its own
abbrev pub recorded_threads : List ℕ → ℕ → Accepted → List ℕ → Ran RecordedPlace End
recorded_threads digits budget a input = recorded_schedule_run (program_of a) digits budget (threads_at_start (program_of a)) input

abbrev pub recorded_trace : Accepted → RecordedPlace → List ℕ
recorded_trace a s = threads_trace a s.threads.events s.threads.tags

unfoldable pub recorded_threads_report : List ℕ → ℕ → Accepted → List ℕ → Report
recorded_threads_report digits budget a input = ran_report (recorded_trace a) (recorded_threads digits budget a input)

-- on an input of bytes both have the same report
abbrev pub ThreadsSame : Accepted → Type 0
ThreadsSame a = (digits : List ℕ) (budget : ℕ) (input : List ℕ) → AreBytes input
    → bytes_observation (bytes_threads digits budget a input) ≡ recorded_observation (recorded_threads digits budget a input)

-- r is the report of a run of threads of an accepted image, over bytes; and, if the numbers of the input are bytes, with recorded
-- activations too
pub record ThreadsAccepted (digits : List ℕ) (budget : ℕ) (a : Accepted) (input : List ℕ) (r : Report) : Type 0 where
  pub is : r ≡ accepted_threads digits budget a input
  pub recorded : AreBytes input → r ≡ recorded_threads_report digits budget a input

-- ---- the command

-- for the bytes of an image, and a schedule
abbrev pub ThreadsBytesReports : ℕ → ThreadProgramValue → List ℕ → Report → Type 0
ThreadsBytesReports budget t = BytesReportsBy (ThreadsAccepted t.digits budget) t.bytes

-- for the files
abbrev pub ThreadsReports : List (List ℕ) → ℕ → List (List ℕ × List ℕ) → List ℕ → Report → Type 0
ThreadsReports names budget files input r = FoundReports (ThreadsBytesReports budget) (thread_program_or_refusal names files) input r

-- ---- what is refused

-- an image that isn't accepted, whatever the schedule and the input are
abbrev pub RefusesThreaded : ThreadProgramValue → Option (List ℕ) → ℕ → Type 0
RefusesThreaded t = RefusedOf IsUnaccepted t.bytes

-- .. and a schedule that can't be read, and sources that give no image
abbrev pub RefusedThreads : Result (List NamedText) (List ℕ) → Option (List ℕ) → ℕ → Type 0
RefusedThreads = RefusedFiles thread_program_of RefusesThreaded
