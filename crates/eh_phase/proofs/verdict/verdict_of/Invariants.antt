use Rattle.std.proofs.Common.{◌≡◌}
use Rattle.eh_phase.specs.Firsts.{first_some}
use Rattle.eh_phase.specs.Verdict.{heard}
use Rattle.eh_phase.specs.Calls.{meeting}
use Rattle.eh_phase.proofs.verdict.verdict_of.Given as goal

abbrev pub invariant-loop-item : goal.invariant-loop-item
invariant-loop-item g l =
    let m = meeting l.t.index l.t.types.now (g.B.Bus.memory l.bus).segments l.what in
    (goal.iterator-loop-item g).can_next l.item-iterator × (goal.iterator-loop-item g).is_finite l.item-iterator
    × (first_some (heard m l.site) l.item-iterator ≡ first_some (heard m l.site) l.fn.descs)
