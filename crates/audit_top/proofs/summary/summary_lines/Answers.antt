use Rattle.std.proofs.Common.{ap, length}
use Rattle.audit_top.proofs.Summaries.{summed}
use Rattle.audit_top.proofs.summary.summary_lines.Goals as goal

pub returns : goal.returns
returns c =
    summed c.args.refused.now c.args.audit.now _ _ _ _ _ _ _ _ _ _ _ _ _ _ _
    (record {
      with_well_is = c.count.ensures;
      with_all_is = c.count-with_table.ensures;
      without_well_is = c.count-2.ensures;
      without_all_is = c.count-without.ensures;
      well_is = c.count-3.ensures;
      all_is = ap length c.functions-all.ensures;
    })
    c.new-lines.ensures.items c.in_ok-extend_from_slice.ensures.items c.in_ok-push_causes.ensures c.in_ok-push_some_count.ensures c.stray.ensures c.in_ok-push_stray.ensures c.in_ok-push_agreement.ensures c.in_ok-push_agreement-2.ensures
    c.in_ok-push_agreement-3.ensures
