use Rattle.std.proofs.Common.{◌<◌, ◌∙◌, arith, length, refl, sym}
use Rattle.run_images.specs.Start.{State, code_start}
use Rattle.eh_bus.specs.declared.map.TheConstants.{MAX_IMAGE_SIZE}
use Rattle.elf_image.specs.declared.fault.ImageFault.TheVariants.{TooLarge}
use Rattle.run_flat.specs.Machine.{flat_machine}
use Rattle.cmd_perform.specs.FlatReport.{IsTooLarge, code_report, line_feed}
use Rattle.cmd_input.specs.Loading.{closing_of}
use Rattle.cmd_lines.specs.Text.{image_fault_line}
use Rattle.cmd_answers.specs.declared.status.TheConstants.{REFUSED}
use Rattle.cmd_perform.specs.Yields.{Only}
use Rattle.cmd_perform.proofs.FlatReports.{code_large, code_small}
use Rattle.cmd_perform.proofs.Statuses.{end_of_run}
use Rattle.cmd_answers.proofs.Statuses.{says_unfit, refused_reported}
use Rattle.cmd_perform.proofs.Yielding.{yields_answer, yields_memory, yields_run}
use Rattle.cmd_perform.proofs.flat.run_code.Goals as goal

pub returns-then-code : goal.returns-then-code
returns-then-code g c =
    let code = c.args.code.now in
    let large = c.if-code.true in
    yields_answer (Only (code_report c.args.budget code)) (MAX_IMAGE_SIZE < length code) (image_fault_line TooLarge) REFUSED _ _ _ _ _ _ _
    (λ b. sym (code_large c.args.budget code b large)) (says_unfit ⊥ (MAX_IMAGE_SIZE < length code) (λ l. l) large) refused_reported (rw (c.as_slice.ensures.value ∙ c.image_fault_line.ensures) at c.answer_text.ensures)

pub returns : goal.returns
returns g c =
    let code = c.args.code.now in
    let small = c.if-code.false in
    let end = c.flat_run-end.result in
    yields_run State flat_machine (λ _. refl) (λ s end. closing_of (line_feed s) end) c.args.budget (code_start code) (λ s end fine. end_of_run end fine) (Only (code_report c.args.budget code)) (MAX_IMAGE_SIZE < length code) _ end _ _ _ _ _ _ _ _ _ _ _
    (λ b. sym (code_small c.args.budget code b small)) (λ large. omega arith)
    (rw (c.start_regs-regs.ensures, c.in-Ok.ensures) at c.flat_run-end.ensures.told)
    c.flat_run-end.ensures.read c.flat_run-end.ensures.write c.flat_run-end.ensures.out_later (λ fine e. absurd (c.answer_end.ensures.free e)) c.answer_end.ensures.does

pub returns-in-Err : goal.returns-in-Err
returns-in-Err g c = yields_memory (Only (code_report c.args.budget c.args.code.now)) (IsTooLarge c.args.code.now) _ _ _ _
