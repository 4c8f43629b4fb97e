use Rattle.std.proofs.Common.{arith, sym, ◌∙◌}
use Rattle.eh_trace.proofs.Places.{stops}
use Rattle.eh_trace.proofs.text.without_zeros.Goals as goal
use Rattle.eh_trace.proofs.text.without_zeros.Goals.{then-loop-at-test+else-digits-at-eq48, else-loop-at-test}

pub returns : goal.returns
returns c =
    stops _ _ c.loop-at.invariant.within
    (λ h. elim c.loop-at-test.branch [ then-loop-at-test+else-digits-at-eq48 w ↦ w.if-digits-at-eq48.false | else-loop-at-test w ↦ absurd (omega arith) ])
    ∙ sym c.loop-at.invariant.same
