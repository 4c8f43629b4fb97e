use Rattle.std.proofs.Common.{Some, refl, subst}
use Rattle.run_images.specs.Start.{State}
use Rattle.run_flat.proofs.Cached.{is_step}
use Rattle.run_flat.proofs.Turns.{goes_told, goes_given, ends_told, ends_given, gate_told_on, gate_given_on, plain_goes, returned_goes, returned_ends, kept_before, by_trap, trap_ends}
use Rattle.thumb_core.specs.Laws.{Leaves}
use Rattle.thumb_core.specs.declared.regs.Stepped.{Stepped}
use Rattle.run_flat.proofs.event.turn_at.Goals as goal

pub returns-in-Done-clause-told : goal.returns-in-Done-clause-told
returns-in-Done-clause-told g c =
    let old : State = record { regs = c.args.regs.now; memory = g.B.Bus.memory c.args.bus.now } in
    goes_told old c.execute-what.result c.execute-what.new.regs (g.B.Bus.memory c.execute-what.new.bus) (is_step old.regs old.memory c.args.instr c.args.size _ c.requires c.execute-what.ensures.effect) c.execute-what.ensures.leaves_memory _ _
    (plain_goes c.execute-what.result old.regs c.execute-what.new.regs c.in-Done.is)

pub returns-in-Done-clause-given : goal.returns-in-Done-clause-given
returns-in-Done-clause-given g c =
    let old : State = record { regs = c.args.regs.now; memory = g.B.Bus.memory c.args.bus.now } in
    goes_given old c.execute-what.result c.execute-what.new.regs (g.B.Bus.memory c.execute-what.new.bus) (is_step old.regs old.memory c.args.instr c.args.size _ c.requires c.execute-what.ensures.effect) c.execute-what.ensures.leaves_memory _
    (plain_goes c.execute-what.result old.regs c.execute-what.new.regs c.in-Done.is)

pub returns-then-to-clause-told : goal.returns-then-to-clause-told
returns-then-to-clause-told g c =
    let old : State = record { regs = c.args.regs.now; memory = g.B.Bus.memory c.args.bus.now } in
    goes_told old c.execute-what.result c.execute-what.new.regs (g.B.Bus.memory c.execute-what.new.bus) (is_step old.regs old.memory c.args.instr c.args.size _ c.requires c.execute-what.ensures.effect) c.execute-what.ensures.leaves_memory _ _
    (returned_goes c.execute-what.result c.in-Return.to old.regs c.execute-what.new.regs c.in-Return.is c.if-to.true)

pub returns-then-to-clause-given : goal.returns-then-to-clause-given
returns-then-to-clause-given g c =
    let old : State = record { regs = c.args.regs.now; memory = g.B.Bus.memory c.args.bus.now } in
    goes_given old c.execute-what.result c.execute-what.new.regs (g.B.Bus.memory c.execute-what.new.bus) (is_step old.regs old.memory c.args.instr c.args.size _ c.requires c.execute-what.ensures.effect) c.execute-what.ensures.leaves_memory _
    (returned_goes c.execute-what.result c.in-Return.to old.regs c.execute-what.new.regs c.in-Return.is c.if-to.true)

pub returns-else-to-clause-told : goal.returns-else-to-clause-told
returns-else-to-clause-told g c =
    let old : State = record { regs = c.args.regs.now; memory = g.B.Bus.memory c.args.bus.now } in
    let kept = kept_before c.execute-what.result c.args.instr c.args.size c.in-Return.to old.regs old.memory c.execute-what.new.regs c.keep_registers.new.before c.in-Return.is c.execute-what.ensures.leaves c.keep_registers.ensures in
    ends_told old c.execute-what.result c.execute-what.new.regs (g.B.Bus.memory c.execute-what.new.bus) (is_step old.regs old.memory c.args.instr c.args.size _ c.requires c.execute-what.ensures.effect) c.execute-what.ensures.leaves_memory _ _ _ c.keep_registers.new.before kept refl
    (returned_ends c.execute-what.result c.in-Return.to old.regs c.execute-what.new.regs c.in-Return.is c.if-to.false)

pub returns-else-to-clause-given : goal.returns-else-to-clause-given
returns-else-to-clause-given g c =
    let old : State = record { regs = c.args.regs.now; memory = g.B.Bus.memory c.args.bus.now } in
    let kept = kept_before c.execute-what.result c.args.instr c.args.size c.in-Return.to old.regs old.memory c.execute-what.new.regs c.keep_registers.new.before c.in-Return.is c.execute-what.ensures.leaves c.keep_registers.ensures in
    ends_given old c.execute-what.result c.execute-what.new.regs (g.B.Bus.memory c.execute-what.new.bus) (is_step old.regs old.memory c.args.instr c.args.size _ c.requires c.execute-what.ensures.effect) c.execute-what.ensures.leaves_memory _ _ c.keep_registers.new.before kept refl
    (returned_ends c.execute-what.result c.in-Return.to old.regs c.execute-what.new.regs c.in-Return.is c.if-to.false)

pub returns-in-Gate-clause-told : goal.returns-in-Gate-clause-told
returns-in-Gate-clause-told g c =
    let old : State = record { regs = c.args.regs.now; memory = g.B.Bus.memory c.args.bus.now } in
    gate_told_on old c.execute-what.result c.execute-what.new.regs (g.B.Bus.memory c.execute-what.new.bus) (is_step old.regs old.memory c.args.instr c.args.size _ c.requires c.execute-what.ensures.effect) c.execute-what.ensures.leaves_memory
    c.in-Gate.number (Some (c.args.instr, c.args.size)) c.in-Gate.is c.execute-what.ensures.leaves _ _ _ _ _ _ c.gate.ensures.told

pub returns-in-Gate-clause-given : goal.returns-in-Gate-clause-given
returns-in-Gate-clause-given g c =
    let old : State = record { regs = c.args.regs.now; memory = g.B.Bus.memory c.args.bus.now } in
    gate_given_on old c.execute-what.result c.execute-what.new.regs (g.B.Bus.memory c.execute-what.new.bus) (is_step old.regs old.memory c.args.instr c.args.size _ c.requires c.execute-what.ensures.effect) c.execute-what.ensures.leaves_memory
    c.in-Gate.number (Some (c.args.instr, c.args.size)) c.in-Gate.is c.execute-what.ensures.leaves _ _ _ _ c.gate.ensures.given

pub returns-in-Trap-clause-told : goal.returns-in-Trap-clause-told
returns-in-Trap-clause-told g c =
    let old : State = record { regs = c.args.regs.now; memory = g.B.Bus.memory c.args.bus.now } in
    let same = subst (λ (w : Stepped). Leaves (Some (c.args.instr, c.args.size)) w old.regs old.memory c.execute-what.new.regs) c.in-Trap.is c.execute-what.ensures.leaves in
    ends_told old c.execute-what.result c.execute-what.new.regs (g.B.Bus.memory c.execute-what.new.bus) (is_step old.regs old.memory c.args.instr c.args.size _ c.requires c.execute-what.ensures.effect) c.execute-what.ensures.leaves_memory _ _ c.trap_end.result c.execute-what.new.regs same (by_trap c.in-Trap.trap old.regs.pc c.trap_end.result c.trap_end.ensures)
    (trap_ends c.execute-what.result c.in-Trap.trap old.regs c.execute-what.new.regs c.trap_end.result c.in-Trap.is c.trap_end.ensures)

pub returns-in-Trap-clause-given : goal.returns-in-Trap-clause-given
returns-in-Trap-clause-given g c =
    let old : State = record { regs = c.args.regs.now; memory = g.B.Bus.memory c.args.bus.now } in
    let same = subst (λ (w : Stepped). Leaves (Some (c.args.instr, c.args.size)) w old.regs old.memory c.execute-what.new.regs) c.in-Trap.is c.execute-what.ensures.leaves in
    ends_given old c.execute-what.result c.execute-what.new.regs (g.B.Bus.memory c.execute-what.new.bus) (is_step old.regs old.memory c.args.instr c.args.size _ c.requires c.execute-what.ensures.effect) c.execute-what.ensures.leaves_memory _ c.trap_end.result c.execute-what.new.regs same (by_trap c.in-Trap.trap old.regs.pc c.trap_end.result c.trap_end.ensures)
    (trap_ends c.execute-what.result c.in-Trap.trap old.regs c.execute-what.new.regs c.trap_end.result c.in-Trap.is c.trap_end.ensures)
