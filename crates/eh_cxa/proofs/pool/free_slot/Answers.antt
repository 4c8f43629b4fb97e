use Rattle.std.proofs.Common.{sym, ◌∙◌, eq-eqb}
use Rattle.eh_cxa.proofs.Zeros.{first_is}
use Rattle.eh_cxa.proofs.pool.free_slot.Goals as goal

pub returns-then-get-eq-FREE-clause-is : goal.returns-then-get-eq-FREE-clause-is
returns-then-get-eq-FREE-clause-is g c =
    sym (first_is _ c.loop-slot.slot c.loop-slot-test.true c.loop-slot.invariant (eq-eqb _ _ (sym c.get.ensures ∙ c.if-get-eq-FREE.true)))
