use Rattle.std.proofs.Common.{length, ap, arith, rules}
use Rattle.gnu_lsda.proofs.Chaining.{left_one}
use Rattle.gnu_lsda.proofs.actions.ActionsIterator.next.Goals as goal

pub returns-in-One-clause-steps : goal.returns-in-One-clause-steps
returns-in-One-clause-steps c = left_one _ _ _ _ _ _ _ c.saturating_sub-self-inside.ensures c.self.view_is c.in-One.ensures

pub returns-in-One-clause-goes : goal.returns-in-One-clause-goes
returns-in-One-clause-goes c =
    let steps = left_one _ _ _ _ _ _ _ c.saturating_sub-self-inside.ensures c.self.view_is c.in-One.ensures in
    let size = ap length steps in
    record { on = λ h. (search rules, search rules, omega (arith, size)); keeps = search rules; rests = λ h. search rules }
