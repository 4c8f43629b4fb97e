use Rattle.eh_kit.proofs.Joined.{scope_told}
use Rattle.eh_kit.proofs.program_text.push_scope.Goals as goal

pub returns : goal.returns
returns c =
    scope_told _ _ _ _ _ _ _ _ _ _ _ _ _ _ c.in_ok-push_named.ensures c.in_ok-push_named-2.ensures c.in_ok-extend_from_slice.ensures.items c.in_ok-push_named-3.ensures
    c.in_ok-push_named-4.ensures c.in_ok-push_named-5.ensures c.in_ok-extend_from_slice-2.ensures.items c.in_ok-extend_from_slice-3.ensures.items c.extend_from_slice-4.ensures.items
