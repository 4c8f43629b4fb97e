use Rattle.std.proofs.lemmas.Result.{err_from_is_err_and}
use Rattle.cmd_input.specs.Building.{fault_line}
use Rattle.cmd_input.proofs.Buildings.{not_read, not_assembled, not_linked, all_linked}
use Rattle.cmd_input.proofs.build.build_image.Goals as goal

pub returns-in_err-read : goal.returns-in_err-read
returns-in_err-read c =
    let p = err_from_is_err_and c.from_residual.result c.from_residual.ensures.1 in
    rw (p.1, p.2) (λ m. not_read c.args.sources.items (fault_line c.in_err-read.field-0.0) (rw c.as_slice.ensures.value at c.in_err-read.ensures m))

pub returns-in_err-objects : goal.returns-in_err-objects
returns-in_err-objects c =
    let p = err_from_is_err_and c.from_residual-in_err-objects.result c.from_residual-in_err-objects.ensures.1 in
    let h = rw c.as_slice-2.ensures.value at c.in_err-objects.ensures in
    rw (p.1, p.2) (λ m. not_assembled c.args.sources.items c.in_ok-read.read.items (fault_line c.in_err-objects.field-0.0) (rw c.as_slice.ensures.value at c.in_ok-read.ensures) (h m))

pub returns-in_err-parts : goal.returns-in_err-parts
returns-in_err-parts c =
    let p = err_from_is_err_and c.from_residual-in_err-parts.result c.from_residual-in_err-parts.ensures.1 in
    let f = rw c.as_slice-2.ensures.value at c.in_ok-objects.ensures in
    let h = rw c.as_slice-3.ensures.value at c.in_err-parts.ensures in
    rw (p.1, p.2) (λ m. not_linked c.args.sources.items c.in_ok-read.read.items c.in_ok-objects.objects.items (fault_line c.in_err-parts.field-0.0) (rw c.as_slice.ensures.value at c.in_ok-read.ensures) f (h m))

pub returns : goal.returns
returns c =
    let f = rw c.as_slice-2.ensures.value at c.in_ok-objects.ensures in
    let h = rw c.as_slice-3.ensures.value at c.in_ok-parts.ensures in
    rw (all_linked c.args.sources.items c.in_ok-read.read.items c.in_ok-objects.objects.items c.in_ok-parts.parts (rw c.as_slice.ensures.value at c.in_ok-read.ensures) f h) c.written_bytes.ensures
