use Rattle.std.proofs.Common.{◌∙◌}
use Rattle.audit_top.specs.Text.{function_line}
use Rattle.audit_top.proofs.Writings.{all_wrote, next_wrote, next_stopped}
use Rattle.audit_top.proofs.listing.write_functions.Goals as goal

pub returns-in-Err : goal.returns-in-Err
returns-in-Err g c =
    next_stopped function_line c.args.functions.now c.loop-a.a-index _ _ _ _ _ _ _ c.loop-a-test.true c.a-item.is c.loop-a.invariant.wrote c.loop-a.invariant.kept _ c.in-Err.ensures

pub loop-a-preserved : goal.loop-a-preserved
loop-a-preserved g c = record {
  wrote = next_wrote function_line c.args.functions.now c.loop-a.a-index _ _ _ _ _ _ 0 c.loop-a-test.true c.a-item.is c.loop-a.invariant.wrote c.loop-a.invariant.kept c.in-Ok.ensures.ok;
  kept = c.in-Ok.ensures.kept ∙ c.loop-a.invariant.kept;
}

pub returns : goal.returns
returns g c = all_wrote _ function_line c.args.functions.now c.loop-a.a-index _ _ _ _ c.loop-a-test.false c.loop-a.invariant.wrote c.loop-a.invariant.kept
