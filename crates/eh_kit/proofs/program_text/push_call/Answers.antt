use Rattle.eh_kit.proofs.Joined.{called}
use Rattle.eh_kit.proofs.program_text.push_call.Goals as goal

pub returns : goal.returns
returns c = called _ _ _ _ _ _ _ _ _ _ c.in_ok-push_named.ensures c.in_ok-push_named-2.ensures c.in_ok-push_named-3.ensures c.in_ok-push_named-4.ensures c.in_ok-push_named-5.ensures c.extend_from_slice.ensures.items
