use Rattle.std.proofs.Common.{◌+◌, List, take, sym, ap, ◌∙◌, subst}
use Rattle.elf_image.specs.Image.{Image}
use Rattle.frame_check.proofs.Wells.{placed_item}
use Rattle.frame_audit.specs.Listing.{FunctionAudit, IsAudited, AreAudited}
use Rattle.frame_audit.proofs.Listed.{audited_item}
use Rattle.frame_audit.proofs.functions.audit_each.Goals as goal

pub audit_function-requires : goal.audit_function-requires
audit_function-requires c =
    placed_item c.args.index.now c.image.result.now c.functions-f-items.result.now c.loop-f.f-index c.f-item.result c.functions-f-items.ensures.sound c.image.ensures
    (c.functions-f-items.ensures.functions ∙ ap (λ (i : Image). i.functions) c.image.ensures) c.loop-f-test.true c.f-item.is

pub loop-f-preserved : goal.loop-f-preserved
loop-f-preserved c =
    let covered = c.turn.ensures ∙ c.loop-f.invariant.cover in
    let found = c.in_ok-found.found in
    let audited =
    audited_item c.args.index.now c.functions-f-items.result.now c.loop-f.f-index c.f-item.result c.loop-f.audited.items found
    (c.functions-f-items.ensures.functions ∙ ap (λ (i : Image). i.functions) c.image.ensures) c.loop-f-test.true c.f-item.is c.loop-f.invariant.audited
    (subst (λ (i : Image). IsAudited i c.f-item.result found) covered c.in_ok-found.ensures)
    in
    record { audited = subst (λ (xs : List FunctionAudit). AreAudited c.args.index.now (take (c.loop-f.f-index + 1) c.args.index.now.functions) xs) (sym c.in_ok-push.ensures.items) audited; cover = covered }
