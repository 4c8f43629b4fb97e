use Rattle.eh_kit.proofs.Joined.{caught}
use Rattle.eh_kit.proofs.program_text.push_caught.Goals as goal

pub returns : goal.returns
returns c = caught _ _ _ _ _ _ _ c.after_catch.ensures c.in_ok-push_named.ensures c.in_ok-extend_from_slice.ensures.items c.extend_from_slice-2.ensures.items
