-- The report of `build FILE..`.
use Rattle.std.specs.Prelude.{ℕ, List}
use Rattle.cmd_input.specs.Building.{image_bytes}
use Rattle.cmd_input.specs.Finding.{found_report}
use Rattle.cmd_input.specs.Loading.{Report}
use Rattle.cmd_answers.specs.declared.status.TheConstants.{DONE}

-- the bytes are written, and nothing else
abbrev pub plain_report : List ℕ → List ℕ → Report
plain_report bytes input = record { text = bytes; status = DONE; left = input }

unfoldable pub build_report : List (List ℕ) → List (List ℕ × List ℕ) → List ℕ → Report
build_report names files input = found_report plain_report (image_bytes names files) input

-- bytes that are only written are never refused
abbrev pub IsUnwritten : List ℕ → Type 0
IsUnwritten bytes = ⊥
