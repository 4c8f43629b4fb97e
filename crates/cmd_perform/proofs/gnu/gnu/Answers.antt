use Rattle.std.proofs.Common.{ℕ, List, [], ◌∷◌, refl}
use Rattle.cmd_input.specs.Building.{refusal_of}
use Rattle.cmd_perform.specs.GnuReport.{RefusesRewritten, GnuBytesReports, gnu_program_or_refusal}
use Rattle.cmd_perform.proofs.Doing.{does_bytes, does_fault}
use Rattle.cmd_perform.proofs.Runners.{gnu_asks, gnu_reads}
use Rattle.cmd_perform.proofs.gnu.gnu.Goals as goal

pub returns-in-Ok-Ok : goal.returns-in-Ok-Ok
returns-in-Ok-Ok g c =
    let names : List (List ℕ) = c.args.name.now ∷ [] in
    let found = rw c.in-Ok-Ok.field-0-is at c.in-Ok-Ok.ensures.found in
    let asked = rw c.in-Ok-Ok.field-0-is at c.in-Ok-Ok.ensures.asked in
    does_bytes _ (gnu_program_or_refusal names) (GnuBytesReports c.args.budget) RefusesRewritten (gnu_asks c.args.name.now c.args.budget) (gnu_reads c.args.name.now c.args.budget) _ _ _ _ _ _ found.told found.kept _ refl asked
    (rw (c.as_slice.ensures.value, c.as_slice-in-Ok-Ok.ensures.value) at c.gnu_bytes.ensures)

pub returns-in-Ok-Err : goal.returns-in-Ok-Err
returns-in-Ok-Err g c =
    let names : List (List ℕ) = c.args.name.now ∷ [] in
    let found = rw c.in-Ok-Err.field-0-is at c.in-Ok-Err.ensures.found in
    let asked = rw c.in-Ok-Err.field-0-is at c.in-Ok-Err.ensures.asked in
    does_fault _ (gnu_program_or_refusal names) (GnuBytesReports c.args.budget) RefusesRewritten (gnu_asks c.args.name.now c.args.budget) (gnu_reads c.args.name.now c.args.budget) _ _ _ _ _ _ _ _ _ (refusal_of c.in-Ok-Err.fault) found.told
    c.answer_files_fault.ensures.status _ refl asked c.answer_files_fault.ensures.line
