-- The report of `flat FILE N`: the file's bytes run as raw code.
use Rattle.std.specs.Prelude.{ℕ, ◌<◌, List, length, codes, nat_lt, if◌then◌else◌}
use Rattle.run_images.specs.Start.{State, code_start}
use Rattle.eh_bus.specs.declared.map.TheConstants.{MAX_IMAGE_SIZE}
use Rattle.elf_image.specs.declared.fault.ImageFault.TheVariants.{TooLarge}
use Rattle.run_flat.specs.Machine.{flat_run_result}
use Rattle.cmd_input.specs.Finding.{file_bytes, found_report}
use Rattle.cmd_input.specs.Loading.{Report, ran_report}
use Rattle.cmd_lines.specs.Text.{image_fault_line}
use Rattle.cmd_answers.specs.declared.status.TheConstants.{REFUSED}

-- a line feed follows the guest's bytes, whatever the last state is
abbrev pub line_feed : State → List ℕ
line_feed state = codes "\n"

unfoldable pub code_report : ℕ → List ℕ → List ℕ → Report
code_report budget code input =
    if nat_lt MAX_IMAGE_SIZE (length code) then record { text = image_fault_line TooLarge; status = REFUSED; left = input }
    else ran_report line_feed (flat_run_result budget (code_start code) input)

unfoldable pub flat_report : List ℕ → ℕ → List (List ℕ × List ℕ) → List ℕ → Report
flat_report name budget files input = found_report (code_report budget) (file_bytes name files) input

-- too many bytes for an image
abbrev pub IsTooLarge : List ℕ → Type 0
IsTooLarge code = MAX_IMAGE_SIZE < length code
