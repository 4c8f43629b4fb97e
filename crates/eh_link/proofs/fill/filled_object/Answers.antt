use Rattle.std.proofs.Common.{◌≡◌, subst}
use Rattle.std.specs.Result.{IfOk}
use Rattle.eh_link.specs.Fields.{fill_object_by, unreachable_by}
use Rattle.eh_link.proofs.Steps.{same_meanings}
use Rattle.eh_link.proofs.fill.filled_object.Goals as goal

pub returns-clause-parts : goal.returns-clause-parts
returns-clause-parts c =
    let same = same_meanings c.in_ok-own.own c.args.global.now c.args.placed.now c.in_ok-own.ensures in
    subst (λ m. IfOk c.fill_object_by.result (λ r. r.0 ≡ fill_object_by m c.args.placed.now)) same c.fill_object_by.ensures.parts

pub returns-clause-lowest : goal.returns-clause-lowest
returns-clause-lowest c =
    let same = same_meanings c.in_ok-own.own c.args.global.now c.args.placed.now c.in_ok-own.ensures in
    subst (λ m. IfOk c.fill_object_by.result (λ r. r.1 ≡ unreachable_by m c.args.placed.now)) same c.fill_object_by.ensures.lowest
