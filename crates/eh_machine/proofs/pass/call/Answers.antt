use Rattle.std.proofs.Common.{◌≡◌, ℕ, true, Some, refl, sym, ap, ◌∙◌, arith}
use Rattle.thumb_isa.specs.declared.instr.Instr.{Instr}
use Rattle.thumb_isa.specs.declared.instr.Instr.TheVariants.{Bl}
use Rattle.thumb_core.specs.Outcome.{Outcome as Stepping}
use Rattle.thumb_core.specs.Step.{instr_for, effect}
use Rattle.eh_gates.specs.State.{state_of}
use Rattle.sim_machines.specs.Program.{profile_in}
use Rattle.eh_machine.specs.Passes.{next_address}
use Rattle.eh_machine.proofs.Passing.{went_on, was_done, was_left, call_passes, not_gate, gate_done}
use Rattle.eh_machine.proofs.pass.call.Goals as goal

pub returns-then-not-at : goal.returns-then-not-at
returns-then-not-at g c = λ p is. was_left p c.args.core.now (g.B.Bus.memory c.args.bus.now) _ _ refl refl

pub returns : goal.returns
returns g c = λ p is.
    let old = g.B.Bus.memory c.args.bus.now in
    let what = c.execute.result in
    let regs = c.execute.new.regs in
    let m = g.B.Bus.memory c.execute.new.bus in
    let off = c.requires.call.off in
    let call : c.args.i ≡ Bl off = c.requires.call.is in
    let there : instr_for (profile_in p) old c.args.core.now.regs.pc ≡ Some (Bl off, c.args.at.now.size) =
    is.there ∙ ap (λ (j : Instr). Some (j, c.args.at.now.size)) (sym c.requires.is ∙ call) in
    let does : ◌≡◌ {A = Stepping} (what, regs, m) (effect (Bl off) c.args.at.now.size c.args.core.now.regs old) =
    c.execute.ensures.effect ∙ ap (λ (j : Instr). effect j c.args.at.now.size c.args.core.now.regs old) call in
    let function : (p.look (next_address (Bl off) c.args.at.now.size c.args.core.now.regs.pc)).is_function ≡ true =
    ap (λ (j : Instr). (p.look (next_address j c.args.at.now.size c.args.core.now.regs.pc)).is_function) (sym call ∙ c.requires.is) ∙ sym is.roles.meets ∙ c.if-not-at.false in
    let no_gate = not_gate c.args.i c.args.at.now.size what c.args.core.now.regs old regs c.execute.ensures.leaves (λ imm e. absurd (cc)) in
    was_done p c.args.core.now old _ _ what no_gate (went_on p c.args.core.now old _ _ what (λ events.
    call_passes p (state_of c.args.core.now old events) off c.args.at.now.size c.home-low.result.0 what regs m is.roles.reached there does function
    (ap (λ (h : ℕ × ℕ). h.0) c.home-low.ensures) (omega arith))
    (λ number events e. absurd (no_gate number (gate_done what number e))))
