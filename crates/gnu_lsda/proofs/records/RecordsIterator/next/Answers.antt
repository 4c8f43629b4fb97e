use Rattle.std.proofs.Common.{length, ap, arith, rules}
use Rattle.gnu_lsda.proofs.Listing.{left_one, left_fault}
use Rattle.gnu_lsda.proofs.records.RecordsIterator.next.Goals as goal

pub returns-in-One-clause-steps : goal.returns-in-One-clause-steps
returns-in-One-clause-steps c = left_one _ _ _ _ _ _ _ c.if-self.false c.self.view_is c.in-One.ensures

pub returns-in-One-clause-goes : goal.returns-in-One-clause-goes
returns-in-One-clause-goes c =
    let steps = left_one _ _ _ _ _ _ _ c.if-self.false c.self.view_is c.in-One.ensures in
    let size = ap length steps in
    record { on = λ h. (search rules, search rules, omega (arith, size)); keeps = search rules; rests = λ h. search rules }

pub returns-in-Fault-clause-steps : goal.returns-in-Fault-clause-steps
returns-in-Fault-clause-steps c = left_fault _ _ _ _ _ _ c.if-self.false c.self.view_is c.in-Fault.ensures

pub returns-in-Fault-clause-goes : goal.returns-in-Fault-clause-goes
returns-in-Fault-clause-goes c =
    let steps = left_fault _ _ _ _ _ _ c.if-self.false c.self.view_is c.in-Fault.ensures in
    let size = ap length steps in
    record { on = λ h. (search rules, search rules, omega (arith, size)); keeps = search rules; rests = λ h. search rules }
