use Rattle.std.proofs.Common.{rules}
use Rattle.cmd_input.specs.Building.{fault_line}
use Rattle.cmd_perform.specs.GenerateReport.{GenerateReports, IsUnfitProgram}
use Rattle.cmd_perform.proofs.Doing.{program_does}
use Rattle.cmd_perform.proofs.Programs.{program_built, program_refused}
use Rattle.cmd_perform.proofs.Yielding.{yields_memory}
use Rattle.cmd_perform.proofs.generated.count_program.Goals as goal

pub returns-in-Ok : goal.returns-in-Ok
returns-in-Ok g c = λ files input faults.
    program_does c.args.number c.args.functions files input _ _ faults _ _ _
    (λ other i. program_built c.args.number c.args.functions c.in-Ok.bytes.items _ _ _ c.in-Ok.ensures (rw c.as_slice.ensures.value at c.count_bytes.ensures other i))

pub returns-else-is_memory : goal.returns-else-is_memory
returns-else-is_memory g c = λ files input faults.
    program_does c.args.number c.args.functions files input _ _ faults _ _ _
    (λ other i. program_refused c.args.number c.args.functions (fault_line c.in-Err.fault) _ other _ _ i _ _ (c.in-Err.ensures (search rules)) c.answer_build_fault.ensures)

pub returns-then-is_memory : goal.returns-then-is_memory
returns-then-is_memory g c = λ files input faults.
    program_does c.args.number c.args.functions files input _ _ faults _ _ _ (λ other i. yields_memory (GenerateReports c.args.number c.args.functions) (IsUnfitProgram c.args.number c.args.functions) other _ i _)
