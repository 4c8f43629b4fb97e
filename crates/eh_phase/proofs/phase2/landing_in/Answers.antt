use Rattle.std.proofs.Common.{rules, ◌≡◌, ◌∙◌, sym, ap, None, false, ◌∷◌}
use Rattle.std.specs.Prelude.{◌&&◌, not}
use Rattle.eh_phase.specs.Firsts.{first_some}
use Rattle.eh_phase.specs.Phases.{enter_item, stands_at}
use Rattle.eh_phase.specs.Calls.{frame_at}
use Rattle.eh_phase.proofs.After.{left, left_on}
use Rattle.eh_phase.proofs.phase2.landing_in.Goals as goal

pub loop-item-preserved : goal.loop-item-preserved
loop-item-preserved c =
    let f = enter_item c.args.goal.now (frame_at c.args.cursor.now) in
    let s : c.loop-item.item-iterator ≡ c.in-Some.item ∷ c.next.new.self = search rules in
    let k : f c.in-Some.item ≡ None = sym c.in_default.ensures in
    let e : (c.loop-item.before && not (stands_at c.args.from c.in-Some.item)) ≡ false = search rules in
    let b : c.is_before-before.result ≡ false = search rules in
    (tt, tt, rw b (sym (left_on f c.loop-item.before c.args.from c.in-Some.item c.next.new.self e k) ∙ ap (λ xs. first_some f (left c.loop-item.before c.args.from xs)) (sym s) ∙ c.loop-item.invariant.2))
