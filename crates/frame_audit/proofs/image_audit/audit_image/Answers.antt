use Rattle.std.proofs.Common.{◌≡◌, None, rules}
use Rattle.eh_index.specs.Refusal.{index_refusal}
use Rattle.frame_audit.specs.Audits.{IsAudit}
use Rattle.frame_audit.proofs.Clear.{clear_is_accepted}
use Rattle.frame_audit.proofs.image_audit.audit_image.Goals as goal

pub returns-in_ok-types-in-Ok-clause-accepted : goal.returns-in_ok-types-in-Ok-clause-accepted
returns-in_ok-types-in-Ok-clause-accepted c =
    let read : index_refusal c.args.image.now ≡ None = search rules in
    let is : IsAudit c.args.image.now (record { functions = c.in_ok-functions-in-Ok.functions.items; types = c.in_ok-types-in-Ok.types; stray = c.stray_bytes.result }) = search rules in
    clear_is_accepted c.args.image.now _ read is
