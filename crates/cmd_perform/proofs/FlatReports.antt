-- The report of raw code.
use Rattle.std.proofs.Common.{◌≡◌, ℕ, ◌<◌, ◌≤◌, List, length, rules, tests}
use Rattle.run_images.specs.Start.{code_start}
use Rattle.eh_bus.specs.declared.map.TheConstants.{MAX_IMAGE_SIZE}
use Rattle.elf_image.specs.declared.fault.ImageFault.TheVariants.{TooLarge}
use Rattle.run_flat.specs.Machine.{flat_run_result}
use Rattle.cmd_perform.specs.FlatReport.{code_report, line_feed}
use Rattle.cmd_input.specs.Loading.{ran_report}
use Rattle.cmd_lines.specs.Text.{image_fault_line}
use Rattle.cmd_answers.specs.declared.status.TheConstants.{REFUSED}

pub code_large : (budget : ℕ) (code input : List ℕ) → MAX_IMAGE_SIZE < length code → code_report budget code input ≡ record { text = image_fault_line TooLarge; status = REFUSED; left = input }
unfolding code_report
code_large budget code input h = search (rules, tests)

pub code_small : (budget : ℕ) (code input : List ℕ) → length code ≤ MAX_IMAGE_SIZE → code_report budget code input ≡ ran_report line_feed (flat_run_result budget (code_start code) input)
unfolding code_report
code_small budget code input h = search (rules, tests)
