use Rattle.std.proofs.Common.{ℕ, slice_index, refl, sym, ap, ◌∙◌, arith}
use Rattle.eh_gates.specs.State.{State, state_of}
use Rattle.sim_machines.specs.Program.{profile_in}
use Rattle.sim_machines.specs.Checked.{program_of}
use Rattle.eh_machine.specs.Passes.{at_of}
use Rattle.eh_machine.proofs.Passing.{ended, went_on, by_trap, trap_passes, stopped, tested_passes, restored, left_as_it_was, tests_are, reguarded_is, gate_done, gate_passes, above_low, at_step, branches_there, pushes_there, leaves_there, in_stack}
use Rattle.eh_machine.proofs.pass.pass_with.Goals as goal

pub returns-in-Trap : goal.returns-in-Trap
returns-in-Trap g c =
    let at = at_of c.args.at.now in
    let tells = c.branch_and_push_count-branches.ensures c.args.at.now.instr c.args.core.now.regs c.requires.told in
    let m = g.B.Bus.memory c.args.bus.now in
    record {
      passes = ended (program_of c.args.a.now) c.args.core.now m _ _ c.trap_end.result
          (λ events. trap_passes (program_of c.args.a.now) (state_of c.args.core.now m events) c.in-Trap.trap c.execute-what.new.regs
          (g.B.Bus.memory c.execute-what.new.bus) c.trap_end.result c.requires.fetched.roles.reached (at_step (profile_in (program_of c.args.a.now)) c.args.core.now.regs m at _ c.requires.fetched.there c.in-Trap.ensures.effect)
          c.in-Trap.ensures.trap.0 c.in-Trap.ensures.trap.1 c.trap_end.ensures)
          (by_trap c.in-Trap.trap _ c.trap_end.result c.trap_end.ensures);
    }

pub returns-in-Done : goal.returns-in-Done
returns-in-Done g c =
    let at = at_of c.args.at.now in
    let tells = c.branch_and_push_count-branches.ensures c.args.at.now.instr c.args.core.now.regs c.requires.told in
    let p = program_of c.args.a.now in
    let old = g.B.Bus.memory c.args.bus.now in
    let m = g.B.Bus.memory c.execute-what.new.bus in
    let back = g.B.Bus.memory c.restore.new.bus in
    record {
      passes = ended p c.args.core.now old _ _ c.in-Some.end (λ events.
          let s : State = state_of c.args.core.now old events in
          let did = at_step (profile_in p) s.regs old at (c.execute-what.result, c.execute-what.new.regs, m) c.requires.fetched.there c.execute-what.ensures.effect in
          stopped p s at c.execute-what.result c.execute-what.new.regs m back c.innermost_sp-landing.result c.home-low.result.0 c.branch_and_push_count-branches.result.0 c.refusal.result c.in-Some.end
          c.requires.fetched.roles.reached c.requires.fetched.there c.execute-what.ensures.effect c.in_default.not-Trap c.innermost_sp-landing.ensures.words (ap (λ (h : ℕ × ℕ). h.0) c.home-low.ensures) tells.taken
          c.refusal.ensures.is c.in-Some.is
          (restored p s c.execute-what.result c.execute-what.new.regs m c.requires.fetched.roles.reached did c.in_default.not-Trap c.args.undo_record.now back c.requires.restores c.in-Done.is c.restore.ensures))
          c.in-Some.ensures.inside;
    }

pub returns-in_default-what : goal.returns-in_default-what
returns-in_default-what g c =
    let at = at_of c.args.at.now in
    let tells = c.branch_and_push_count-branches.ensures c.args.at.now.instr c.args.core.now.regs c.requires.told in
    let p = program_of c.args.a.now in
    let old = g.B.Bus.memory c.args.bus.now in
    let m = g.B.Bus.memory c.execute-what.new.bus in
    record {
      passes = ended p c.args.core.now old _ _ c.in-Some.end (λ events.
          let s : State = state_of c.args.core.now old events in
          let did = at_step (profile_in p) s.regs old at (c.execute-what.result, c.execute-what.new.regs, m) c.requires.fetched.there c.execute-what.ensures.effect in
          stopped p s at c.execute-what.result c.execute-what.new.regs m m c.innermost_sp-landing.result c.home-low.result.0 c.branch_and_push_count-branches.result.0 c.refusal.result c.in-Some.end
          c.requires.fetched.roles.reached c.requires.fetched.there c.execute-what.ensures.effect c.in_default.not-Trap c.innermost_sp-landing.ensures.words (ap (λ (h : ℕ × ℕ). h.0) c.home-low.ensures) tells.taken
          c.refusal.ensures.is c.in-Some.is
          (left_as_it_was p s c.execute-what.result c.execute-what.new.regs m c.requires.fetched.roles.reached did c.in_default.not-Trap c.in_default-what.not-Done c.execute-what.ensures.leaves_memory))
          c.in-Some.ensures.inside;
    }

pub update_guards-requires : goal.update_guards-requires
update_guards-requires g c =
    let at = at_of c.args.at.now in
    let tells = c.branch_and_push_count-branches.ensures c.args.at.now.instr c.args.core.now.regs c.requires.told in
    let p = program_of c.args.a.now in
    let old = g.B.Bus.memory c.args.bus.now in
    let m = g.B.Bus.memory c.execute-what.new.bus in
    let regs = c.execute-what.new.regs in
    let stack = in_stack c.args.core.now.regs old at c.branch_and_push_count-branches.result.1 c.execute-what.result regs m (g.met.B.Bus.is_map c.args.bus.now) (omega arith) tells.count
    c.execute-what.ensures.effect c.in_default.not-Trap in
    let home = (g.met.B.Bus.is_map c.args.bus.now).home.low in
    let low = ap (λ (h : ℕ × ℕ). h.0) c.home-low.ensures in
    let above = above_low p c.innermost_sp-landing.result c.home-low.result.0 (c.args.core.now.regs.pc, slice_index c.args.core.now.regs.r 13)
    c.branch_and_push_count-branches.result.0 c.execute-what.result regs (sym c.refusal.ensures.is ∙ c.in_default-refusal.is) in
    record {
      few = tells.few;
      aligned = λ some. (stack some).aligned;
      low = λ some. omega (arith, home, low, above);
      high = λ some. (stack some).high;
    }

pub returns : goal.returns
returns g c =
    let at = at_of c.args.at.now in
    let tells = c.branch_and_push_count-branches.ensures c.args.at.now.instr c.args.core.now.regs c.requires.told in
    let p = program_of c.args.a.now in
    let old = g.B.Bus.memory c.args.bus.now in
    let what = c.execute-what.result in
    let regs = c.execute-what.new.regs in
    let m = g.B.Bus.memory c.execute-what.new.bus in
    let new = g.B.Bus.memory c.update_guards.new.bus in
    record {
      passes = went_on p c.args.core.now old _ _ what (λ events.
          let s : State = state_of c.args.core.now old events in
          let did = at_step (profile_in p) s.regs old at (what, regs, m) c.requires.fetched.there c.execute-what.ensures.effect in
          let t = tests_are p s what regs c.innermost_sp-landing.result c.home-low.result.0 c.branch_and_push_count-branches.result.0 c.refusal.result
          c.innermost_sp-landing.ensures.words (ap (λ (h : ℕ × ℕ). h.0) c.home-low.ensures) (branches_there (profile_in p) s.regs old at c.branch_and_push_count-branches.result.0 c.requires.fetched.there tells.taken) c.refusal.ensures.is in
          tested_passes p s what regs m c.requires.fetched.roles.reached did c.in_default.not-Trap new (t ∙ c.in_default-refusal.is)
          (reguarded_is p s regs m new c.args.at.now.saves c.branch_and_push_count-branches.result.1 _ _ c.requires.fetched.roles.saves (pushes_there (profile_in p) s.regs old at c.branch_and_push_count-branches.result.1 c.requires.fetched.there tells.count) refl refl c.update_guards.ensures))
          (λ number events is.
          let s : State = state_of c.args.core.now old events in
          gate_passes p what c.args.at.now.saves c.branch_and_push_count-branches.result.1 _ _ number s regs m new
          (gate_done what number is) (leaves_there (profile_in p) s.regs old at what regs c.requires.fetched.there c.execute-what.ensures.leaves) c.execute-what.ensures.leaves_memory
          (pushes_there (profile_in p) s.regs old at c.branch_and_push_count-branches.result.1 c.requires.fetched.there tells.count) refl refl c.update_guards.ensures);
    }
