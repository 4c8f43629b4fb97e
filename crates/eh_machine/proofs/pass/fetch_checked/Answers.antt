use Rattle.std.proofs.Common.{refl, sym, ◌∙◌}
use Rattle.eh_gates.specs.State.{state_of}
use Rattle.sim_machines.specs.Checked.{program_of}
use Rattle.eh_machine.proofs.Passing.{ended, by_trap, unchecked, trap_passes, in_profile, does_in_profile}
use Rattle.eh_machine.proofs.pass.fetch_checked.Goals as goal

pub returns-then-not-known-clause-ends : goal.returns-then-not-known-clause-ends
returns-then-not-known-clause-ends g c =
    let p = program_of c.args.a.now in
    let m = g.B.Bus.memory c.args.bus.now in
    ended p c.args.core.now m c.args.core.now m _ (λ events. unchecked p (state_of c.args.core.now m events) (sym c.is_instr-known.ensures.role ∙ c.if-not-known.true)) refl

pub returns-in-Err-clause-ends : goal.returns-in-Err-clause-ends
returns-in-Err-clause-ends g c =
    let p = program_of c.args.a.now in
    let m = g.B.Bus.memory c.args.bus.now in
    ended p c.args.core.now m c.args.core.now m c.trap_end.result
    (λ events. trap_passes p (state_of c.args.core.now m events) c.in-Err.trap c.args.core.now.regs m c.trap_end.result
    (sym c.is_instr-known.ensures.role ∙ c.if-not-known.false) (sym (does_in_profile c.args.a.now c.profile.result c.args.core.now.regs m _ c.profile.ensures c.in-Err.ensures.does)) refl refl c.trap_end.ensures)
    (by_trap c.in-Err.trap _ c.trap_end.result c.trap_end.ensures)

pub returns-in-Ok-clause-fetched : goal.returns-in-Ok-clause-fetched
returns-in-Ok-clause-fetched g c = record {
  there = in_profile c.args.a.now c.profile.result (g.B.Bus.memory c.args.bus.now) c.args.core.now.regs.pc _ c.profile.ensures c.in-Ok.ensures.there;
  range = c.in-Ok.ensures.range;
  roles = record {
    reached = sym c.is_instr-known.ensures.role ∙ c.if-not-known.false;
    lowers = c.lowers_at.ensures.role;
    meets = c.meets_function.ensures;
    saves = c.saves_at.ensures.role;
  };
}
