use Rattle.std.proofs.Common.{ℕ, refl, sym, ap, ◌∙◌, arith}
use Rattle.thumb_core.specs.declared.regs.Stepped.TheVariants.{Done}
use Rattle.eh_gates.specs.State.{State, state_of}
use Rattle.sim_machines.specs.Program.{profile_in}
use Rattle.eh_machine.specs.Passes.{at_of}
use Rattle.eh_machine.proofs.Passing.{went_on, was_done, tested_passes, guarded_is, at_step, pushes_there, in_stack, straight, no_test, as_done, goes_after}
use Rattle.eh_machine.proofs.pass.fall_through.Goals as goal

pub guard_pushed-requires : goal.guard_pushed-requires
guard_pushed-requires g c =
    let at = at_of c.args.at.now in
    let old = g.B.Bus.memory c.args.bus.now in
    let m = g.B.Bus.memory c.execute-what.new.bus in
    let what = c.execute-what.result in
    let regs = c.execute-what.new.regs in
    let stack = in_stack c.args.core.now.regs old at c.args.pushes what regs m (g.met.B.Bus.is_map c.args.bus.now) (omega arith) c.requires.told.count
    c.execute-what.ensures.effect c.in_default.not-Trap in
    let on = straight c.args.core.now.regs old at c.args.pushes what regs m c.requires.told c.requires.range (omega arith) c.are_words.ensures (c.if-not-has_room.ensures.room refl)
    c.execute-what.ensures.effect c.in_default.not-Trap in
    let home = (g.met.B.Bus.is_map c.args.bus.now).home.low in
    let low = ap (λ (h : ℕ × ℕ). h.0) c.home-low.ensures in
    record {
      few = c.requires.told.few;
      aligned = λ some. (stack some).aligned;
      low = λ some. omega (arith, home, low, on.low, c.if-not-has_room.ensures.low refl);
      high = λ some. (stack some).high;
    }

pub returns : goal.returns
returns g c = λ p is.
    let at = at_of c.args.at.now in
    let old = g.B.Bus.memory c.args.bus.now in
    let what = c.execute-what.result in
    let regs = c.execute-what.new.regs in
    let m = g.B.Bus.memory c.execute-what.new.bus in
    let new = g.B.Bus.memory c.guard_pushed.new.bus in
    let on = straight c.args.core.now.regs old at c.args.pushes what regs m c.requires.told c.requires.range (omega arith) c.are_words.ensures (c.if-not-has_room.ensures.room refl)
    c.execute-what.ensures.effect c.in_default.not-Trap in
    was_done p c.args.core.now old _ _ Done (λ number e. absurd (cc)) (went_on p c.args.core.now old _ _ Done (λ events.
    let s : State = state_of c.args.core.now old events in
    let did = at_step (profile_in p) s.regs old at (what, regs, m) is.there c.execute-what.ensures.effect in
    let t = no_test p s at c.args.pushes c.home-low.result.0 what regs is.there c.requires.told (ap (λ (h : ℕ × ℕ). h.0) c.home-low.ensures) on
    (c.if-not-has_room.ensures.low refl) (ap (λ (x : ℕ). (p.look x).is_function) (sym (goes_after at.0 at.1 s.regs.pc c.requires.told.fall_through)) ∙ sym is.roles.meets ∙ c.if-at.false) in
    as_done p s _ what on.done (tested_passes p s what regs m is.roles.reached did c.in_default.not-Trap new t
    (guarded_is p s regs m new _ c.args.pushes _ is.roles.saves (pushes_there (profile_in p) s.regs old at c.args.pushes is.there c.requires.told.count) refl on.high c.guard_pushed.ensures)))
    (λ number events gate. absurd (cc)))
