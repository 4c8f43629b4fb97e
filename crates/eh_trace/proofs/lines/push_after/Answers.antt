use Rattle.eh_trace.proofs.After.{after}
use Rattle.eh_trace.proofs.lines.push_after.Goals as goal

pub returns : goal.returns
returns c = after _ _ _ _ _ _ c.in_ok-extend_from_slice.ensures.items c.in_ok-push_number.ensures c.extend_from_slice-2.ensures.items
