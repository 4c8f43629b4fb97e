use Rattle.std.proofs.Common.{◌≤◌, ◌∙◌, length}
use Rattle.std.proofs.lemmas.Result.{err_from_is_err_and}
use Rattle.elf_write.proofs.Planning.{written_fault}
use Rattle.elf_write.proofs.write.write_image.Goals as goal
use Rattle.elf_image.specs.declared.limits.TheConstants.{SEGMENT_LIMIT}

pub returns-in_err-read_back-clause-refused : goal.returns-in_err-read_back-clause-refused
returns-in_err-read_back-clause-refused c =
    let found = rw c.in-Some.is at c.in_ok-plan.ensures.found in
    let few : length c.args.parts.now.segments ≤ SEGMENT_LIMIT = rw (← c.as_slice.ensures) c.if-as_slice-gt-SEGMENT_LIMIT.false in
    let p = err_from_is_err_and c.from_residual-in_err-read_back.result c.from_residual-in_err-read_back.ensures.1 in
    rw (p.1, p.2) (λ ne. written_fault c.args.parts.now c.in-Some.plan c.deref.result.now c.in_err-read_back.field-0.0 few found c.in-Some-piece_places.ensures.fits
    (c.deref.ensures.value ∙ c.in_ok-bytes.ensures) (c.in_err-read_back.ensures.refused ne))
