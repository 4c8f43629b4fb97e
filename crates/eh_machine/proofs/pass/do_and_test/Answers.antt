use Rattle.std.proofs.Common.{◌≡◌, ℕ, Some, None, length, refl, sym, ap, subst, ◌∙◌}
use Rattle.thumb_isa.specs.Range.{InRange}
use Rattle.thumb_core.specs.declared.regs.Regs.{Regs}
use Rattle.thumb_ahead.specs.Ahead.{pushed_registers}
use Rattle.thumb_isa.specs.declared.instr.Instr.{Instr}
use Rattle.thumb_core.specs.Step.{instr_for}
use Rattle.eh_gates.specs.State.{State, state_of}
use Rattle.sim_machines.specs.Program.{profile_in}
use Rattle.sim_machines.specs.Checked.{program_of}
use Rattle.eh_machine.proofs.Passing.{went_on, was_done, was_left, tested_passes, none_changed, not_gate, gate_done, tests_are, reguarded_is, at_step, branches_there, pushes_there}
use Rattle.eh_machine.proofs.pass.do_and_test.Goals as goal

pub execute-what-requires : goal.execute-what-requires
execute-what-requires g c = subst (λ (j : Instr). InRange j) (sym c.requires.is) c.requires.fetched.range

pub returns-in-Trap : goal.returns-in-Trap
returns-in-Trap g c =
    was_left (program_of c.args.a.now) c.args.core.now (g.B.Bus.memory c.args.bus.now) _ _ (ap (λ (r : Regs). record c.args.core.now { regs = r }) c.in-Trap.ensures.trap.0) c.in-Trap.ensures.trap.1

pub returns-then-not-has_no_cleanup : goal.returns-then-not-has_no_cleanup
returns-then-not-has_no_cleanup g c = was_left (program_of c.args.a.now) c.args.core.now (g.B.Bus.memory c.args.bus.now) _ _ refl refl

pub returns-then-not-may_continue : goal.returns-then-not-may_continue
returns-then-not-may_continue g c =
    let p = program_of c.args.a.now in
    let m = g.B.Bus.memory c.args.bus.now in
    let at : Instr × ℕ = (c.args.i, c.args.at.now.size) in
    let there : instr_for (profile_in p) m c.args.core.now.regs.pc ≡ Some at =
    c.requires.fetched.there ∙ ap (λ (j : Instr). Some (j, c.args.at.now.size)) (sym c.requires.is) in
    was_left p c.args.core.now m _ _ refl
    (none_changed (profile_in p) c.args.core.now.regs m at c.execute-what.result c.execute-what.new.regs (g.B.Bus.memory c.execute-what.new.bus)
    c.are_words.ensures there c.requires.told.stores c.execute-what.ensures.effect c.in_default.not-Trap c.execute-what.ensures.leaves_memory)

pub returns : goal.returns
returns g c =
    let p = program_of c.args.a.now in
    let old = g.B.Bus.memory c.args.bus.now in
    let what = c.execute-what.result in
    let regs = c.execute-what.new.regs in
    let m = g.B.Bus.memory c.execute-what.new.bus in
    let new = g.B.Bus.memory c.update_guards.new.bus in
    let at : Instr × ℕ = (c.args.i, c.args.at.now.size) in
    let there : instr_for (profile_in p) old c.args.core.now.regs.pc ≡ Some at =
    c.requires.fetched.there ∙ ap (λ (j : Instr). Some (j, c.args.at.now.size)) (sym c.requires.is) in
    let none : 0 ≡ length (pushed_registers c.args.i) = ap length (sym c.requires.told.pushes) in
    let no_gate = not_gate c.args.i c.args.at.now.size what c.args.core.now.regs old regs c.execute-what.ensures.leaves c.requires.no_gate in
    was_done p c.args.core.now old _ _ what no_gate (went_on p c.args.core.now old _ _ what (λ events.
    let s : State = state_of c.args.core.now old events in
    let did = at_step (profile_in p) s.regs old at (what, regs, m) there c.execute-what.ensures.effect in
    let t = tests_are p s what regs None c.home-low.result.0 c.args.branches None
    (sym (c.if-not-has_no_cleanup.ensures refl)) (ap (λ (h : ℕ × ℕ). h.0) c.home-low.ensures) (branches_there (profile_in p) s.regs old at c.args.branches there c.requires.told.taken) (sym (c.if-not-may_continue.ensures refl)) in
    tested_passes p s what regs m c.requires.fetched.roles.reached did c.in_default.not-Trap new t
    (reguarded_is p s regs m new c.args.at.now.saves 0 _ _ c.requires.fetched.roles.saves (pushes_there (profile_in p) s.regs old at 0 there none) refl refl c.update_guards.ensures))
    (λ number events e. absurd (no_gate number (gate_done what number e))))
