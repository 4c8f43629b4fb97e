-- The reports of `check FILE` for an image and of `check FILE..` for sources. No guest runs, and the whole input is left.
use Rattle.std.specs.Prelude.{ℕ, List, length}
use Rattle.frame_check.specs.Accepts.{Accepted}
use Rattle.cmd_input.specs.Accepting.{BytesReportsBy}
use Rattle.cmd_input.specs.Building.{image_bytes}
use Rattle.cmd_lines.specs.CheckText.{accepted_line}
use Rattle.cmd_input.specs.Finding.{file_bytes, FoundReports}
use Rattle.cmd_input.specs.Loading.{Report}
use Rattle.cmd_perform.specs.Yields.{Only}
use Rattle.cmd_answers.specs.declared.status.TheConstants.{DONE}

-- the image is accepted, and the report says how many functions it has
abbrev pub checked_report : Accepted → List ℕ → Report
checked_report a input = record { text = accepted_line (length a.image.functions); status = DONE; left = input }

abbrev pub ChecksAccepted : Accepted → List ℕ → Report → Type 0
ChecksAccepted a = Only (checked_report a)

-- for the image in a file
abbrev pub CheckReports : List ℕ → List (List ℕ × List ℕ) → List ℕ → Report → Type 0
CheckReports name files input r = FoundReports (BytesReportsBy ChecksAccepted) (file_bytes name files) input r

-- for the image that `build` writes of sources
abbrev pub CheckSourcesReports : List (List ℕ) → List (List ℕ × List ℕ) → List ℕ → Report → Type 0
CheckSourcesReports names files input r = FoundReports (BytesReportsBy ChecksAccepted) (image_bytes names files) input r
