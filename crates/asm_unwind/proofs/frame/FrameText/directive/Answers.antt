use Rattle.std.proofs.Common.{sym}
use Rattle.asm_unwind.proofs.KeptLemmas.{kept_more}
use Rattle.asm_unwind.proofs.frame.FrameText.directive.Goals as goal

pub invariant_of-self-2 : goal.invariant_of-self-2
invariant_of-self-2 c = kept_more _ _ _ _ _ c.self.invariant c.in_default.ensures.narrow (sym c.in_default.ensures.value) c.in_ok-push.ensures.items c.with_next-self-inside.ensures
