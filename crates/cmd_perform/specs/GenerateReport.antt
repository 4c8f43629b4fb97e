-- The report of `gen K M`: the generated program of a number is built, checked, and run without input. Its output is dropped, and its
-- events are counted. The input is left.
use Rattle.std.specs.Prelude.{ℕ, ◌≡◌, ◌++◌, List, [], ◌∷◌, length, codes, Result}
use Rattle.run_events.specs.Runs.{Ran}
use Rattle.eh_kit.specs.ProgramText.{generated_text}
use Rattle.eh_trace.specs.Trace.{Trace}
use Rattle.frame_check.specs.Accepts.{Accepted}
use Rattle.thumb_core.specs.declared.ends.End.{End}
use Rattle.cmd_input.specs.Accepting.{BytesReportsBy, IsUnaccepted}
use Rattle.cmd_perform.specs.BothRuns.{bytes_run, recorded_run, bytes_events, recorded_events}
use Rattle.cmd_input.specs.Building.{build_image, or_refusal}
use Rattle.cmd_input.specs.Finding.{FoundReports}
use Rattle.cmd_input.specs.Loading.{Report, status_of}
use Rattle.cmd_input.specs.Sources.{NamedText, Refusal}
use Rattle.cmd_lines.specs.Text.{end_line}
use Rattle.cmd_perform.specs.Text.{summary}
use Rattle.cmd_perform.specs.Unfit.{IsUnfitImage}
use Rattle.cmd_input.specs.declared.words.TheConstants.{MOST_INSTRUCTIONS}

-- ---- the program

-- its source, under the name `generated`
abbrev pub generated_source : ℕ → ℕ → NamedText
generated_source number functions = record { name = codes "generated"; text = generated_text number functions }

-- the bytes of its image
abbrev pub generated_bytes : ℕ → ℕ → Result (List ℕ) Refusal
generated_bytes number functions = or_refusal (build_image (generated_source number functions ∷ []))

-- ---- the report

-- how many functions the image has, how many events the run had, and how it ended
abbrev pub counted_report : {S : Type 0} → (S → Trace) → Accepted → Ran S End → List ℕ → Report
counted_report events a ran input = record { text = summary (length a.image.functions) (events ran.state) ++ end_line ran.end; status = status_of ran.end; left = input }

-- .. for a run of an accepted image without input, by the machine over bytes
unfoldable pub summary_report : Accepted → List ℕ → Report
summary_report a input = counted_report bytes_events a (bytes_run MOST_INSTRUCTIONS a []) input

-- .. and by the machine with recorded activations
unfoldable pub recorded_summary : Accepted → List ℕ → Report
recorded_summary a input = counted_report recorded_events a (recorded_run MOST_INSTRUCTIONS a []) input

-- r is the report of a run of an accepted image, over bytes and with recorded activations
pub record CountsAccepted (a : Accepted) (input : List ℕ) (r : Report) : Type 0 where
  pub is : r ≡ summary_report a input
  pub recorded : r ≡ recorded_summary a input

-- .. or the report of `check` for the image
abbrev pub GenerateReports : ℕ → ℕ → List ℕ → Report → Type 0
GenerateReports number functions input r = FoundReports (BytesReportsBy CountsAccepted) (generated_bytes number functions) input r

-- ---- what is refused

-- no image is built from it, or one that isn't accepted
abbrev pub IsUnfitProgram : ℕ → ℕ → Type 0
IsUnfitProgram number functions = IsUnfitImage IsUnaccepted (build_image (generated_source number functions ∷ []))
