use Rattle.std.proofs.Common.{◌∙◌, ap}
use Rattle.elf_image.specs.Image.{Image}
use Rattle.cmd_perform.specs.GenerateReport.{CountsAccepted}
use Rattle.cmd_perform.proofs.Programs.{accepted_counted}
use Rattle.cmd_perform.proofs.Yielding.{yields_memory}
use Rattle.cmd_perform.proofs.generated.count_accepted.Goals as goal

pub returns : goal.returns
returns g c =
    let runs = rw (c.in-Ok.ensures.program, c.in-Ok.ensures.budget, c.in-Ok.ensures.state, c.empty_source-input.ensures) at c.run-end.ensures.told in
    let functions = c.functions-functions.ensures.functions ∙ ap (λ (i : Image). i.functions) c.image.ensures.image in
    accepted_counted c.args.accepted.now c.runs_same.ensures.same c.run-end.result _ _ _ _ _ runs c.run-end.ensures.faults.input.rose c.run-end.ensures.faults.out.rose _ _ _ _ _
    (rw (c.events.ensures, functions) at c.answer_summary.ensures)

pub returns-in-Err : goal.returns-in-Err
returns-in-Err g c = λ input faults. yields_memory (CountsAccepted c.args.accepted.now) ⊥ input _ faults _
