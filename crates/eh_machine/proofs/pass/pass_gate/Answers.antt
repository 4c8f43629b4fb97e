use Rattle.std.proofs.Common.{◌≡◌, ℕ, Some, Err, length, slice_index, refl, sym, ap, ◌∙◌}
use Rattle.thumb_isa.specs.declared.instr.Instr.{Instr}
use Rattle.thumb_isa.specs.declared.instr.Instr.TheVariants.{Svc}
use Rattle.thumb_core.specs.Outcome.{Outcome as Stepping}
use Rattle.thumb_core.specs.Registers.{with_next}
use Rattle.thumb_core.specs.Step.{instr_for}
use Rattle.thumb_core.specs.declared.regs.Regs.{Regs}
use Rattle.thumb_core.specs.declared.regs.TheConstants.{SP}
use Rattle.thumb_ahead.specs.Ahead.{pushed_registers}
use Rattle.eh_cxa.specs.Words.{word}
use Rattle.eh_cxa.specs.Cleanup.{innermost_of}
use Rattle.eh_gates.specs.declared.state.Core.{Core}
use Rattle.eh_gates.specs.State.{State, state_of}
use Rattle.sim_machines.specs.Machine.{PassResult}
use Rattle.sim_machines.specs.Program.{profile_in}
use Rattle.sim_machines.specs.Checked.{program_of}
use Rattle.eh_machine.proofs.Passing.{ended, went_on, stopped, tested_passes, tests_are, reguarded_is, reguarded_none, gate_done, gate_passes, no_landing, back_at, at_step, branches_there, pushes_there, leaves_there}
use Rattle.eh_machine.proofs.pass.pass_gate.Goals as goal

pub returns-in-Some : goal.returns-in-Some
returns-in-Some g c =
    let p = program_of c.args.a.now in
    let core = c.args.core.now in
    let old = g.B.Bus.memory c.args.bus.now in
    let what = c.execute-what.result in
    let regs = c.execute-what.new.regs in
    let m = g.B.Bus.memory c.execute-what.new.bus in
    let at : Instr × ℕ = (Svc c.args.imm, c.args.at.now.size) in
    let there : instr_for (profile_in p) old core.regs.pc ≡ Some at = c.requires.fetched.there ∙ ap (λ (j : Instr). Some (j, c.args.at.now.size)) c.requires.is in
    let next : regs ≡ with_next c.args.at.now.size core.regs = ap (λ (o : Stepping). o.1) c.execute-what.ensures.effect in
    let same : m ≡ old = ap (λ (o : Stepping). o.2) c.execute-what.ensures.effect in
    let stays : slice_index regs.r SP ≡ slice_index core.regs.r SP = ap (λ (r : Regs). slice_index r.r SP) next in
    let landing = innermost_of (word old) core.globals in
    let is = c.refusal.ensures.is ∙ no_landing p landing c.home-low.result.0 core.regs.pc (slice_index core.regs.r SP) c.args.branches what regs stays in
    record {
      passes = ended p core old _ _ c.in-Some.end (λ events.
          let s : State = state_of core old events in
          let one : Core → PassResult = λ k. (Err c.in-Some.end, state_of k m events) in
          ap one (back_at core c.args.at.now.size regs next)
          ∙ stopped p s at what regs m m landing c.home-low.result.0 c.args.branches c.refusal.result c.in-Some.end c.requires.fetched.roles.reached there c.execute-what.ensures.effect
          c.in_default.not-Trap refl (ap (λ (h : ℕ × ℕ). h.0) c.home-low.ensures) c.requires.told.taken is c.in-Some.is same)
          c.in-Some.ensures.inside;
    }

pub returns : goal.returns
returns g c =
    let p = program_of c.args.a.now in
    let core = c.args.core.now in
    let old = g.B.Bus.memory c.args.bus.now in
    let what = c.execute-what.result in
    let regs = c.execute-what.new.regs in
    let m = g.B.Bus.memory c.execute-what.new.bus in
    let at : Instr × ℕ = (Svc c.args.imm, c.args.at.now.size) in
    let there : instr_for (profile_in p) old core.regs.pc ≡ Some at = c.requires.fetched.there ∙ ap (λ (j : Instr). Some (j, c.args.at.now.size)) c.requires.is in
    let next : regs ≡ with_next c.args.at.now.size core.regs = ap (λ (o : Stepping). o.1) c.execute-what.ensures.effect in
    let sp = slice_index core.regs.r SP in
    let stays : slice_index regs.r SP ≡ sp = ap (λ (r : Regs). slice_index r.r SP) next in
    let landing = innermost_of (word old) core.globals in
    let is = c.refusal.ensures.is ∙ no_landing p landing c.home-low.result.0 core.regs.pc sp c.args.branches what regs stays in
    let none : 0 ≡ length (pushed_registers at.0) = ap length (sym c.requires.told.pushes) in
    let idle = sym (reguarded_none c.args.at.now.saves sp m) in
    record {
      passes = went_on p core old _ _ what (λ events.
          let s : State = state_of core old events in
          let t = tests_are p s what regs landing c.home-low.result.0 c.args.branches c.refusal.result refl (ap (λ (h : ℕ × ℕ). h.0) c.home-low.ensures)
          (branches_there (profile_in p) s.regs old at c.args.branches there c.requires.told.taken) is in
          tested_passes p s what regs m c.requires.fetched.roles.reached (at_step (profile_in p) s.regs old at (what, regs, m) there c.execute-what.ensures.effect) c.in_default.not-Trap m
          (t ∙ c.in_default-refusal.is)
          (reguarded_is p s regs m m c.args.at.now.saves 0 sp sp c.requires.fetched.roles.saves (pushes_there (profile_in p) s.regs old at 0 there none) refl (sym stays) idle))
          (λ number events is.
          let s : State = state_of core old events in
          gate_passes p what c.args.at.now.saves 0 sp sp number s regs m m (gate_done what number is)
          (leaves_there (profile_in p) s.regs old at what regs there c.execute-what.ensures.leaves) c.execute-what.ensures.leaves_memory
          (pushes_there (profile_in p) s.regs old at 0 there none) refl (sym stays) idle);
    }
