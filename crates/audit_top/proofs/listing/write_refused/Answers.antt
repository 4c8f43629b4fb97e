use Rattle.std.proofs.Common.{◌∙◌, sym}
use Rattle.std.proofs.lemmas.List.{get_or_default}
use Rattle.audit_top.specs.Text.{entry_line}
use Rattle.audit_top.proofs.Writings.{all_wrote, next_wrote, next_stopped}
use Rattle.audit_top.proofs.listing.write_refused.Goals as goal

pub returns-in-Err : goal.returns-in-Err
returns-in-Err g c =
    next_stopped entry_line c.args.refused.now c.loop-e.e-index _ _ _ _ _ _ _ c.loop-e-test.true (sym (get_or_default c.args.refused.now c.loop-e.e-index _ _ c.loop-e-test.true)) c.loop-e.invariant.wrote c.loop-e.invariant.kept _ c.in-Err.ensures

pub loop-e-preserved : goal.loop-e-preserved
loop-e-preserved g c = record {
  wrote = next_wrote entry_line c.args.refused.now c.loop-e.e-index _ _ _ _ _ _ 0 c.loop-e-test.true (sym (get_or_default c.args.refused.now c.loop-e.e-index _ _ c.loop-e-test.true)) c.loop-e.invariant.wrote c.loop-e.invariant.kept c.in-Ok.ensures.ok;
  kept = c.in-Ok.ensures.kept ∙ c.loop-e.invariant.kept;
}

pub returns : goal.returns
returns g c = all_wrote _ entry_line c.args.refused.now c.loop-e.e-index _ _ _ _ c.loop-e-test.false c.loop-e.invariant.wrote c.loop-e.invariant.kept
