use Rattle.std.proofs.Common.{refl, sym}
use Rattle.run_images.specs.Start.{State}
use Rattle.thumb_core.specs.declared.regs.Stepped.TheVariants.{Trap}
use Rattle.run_flat.proofs.Turns.{ends_told, ends_given, by_trap, trap_ends}
use Rattle.run_flat.proofs.event.turn.Goals as goal

pub returns-in-Err-clause-told : goal.returns-in-Err-clause-told
returns-in-Err-clause-told g c =
    let old : State = record { regs = c.args.regs.now; memory = g.B.Bus.memory c.args.bus.now } in
    ends_told old (Trap c.in-Err.trap) old.regs old.memory (sym c.in-Err.ensures.trap) refl _ _ c.trap_end.result old.regs refl (by_trap c.in-Err.trap old.regs.pc c.trap_end.result c.trap_end.ensures)
    (trap_ends (Trap c.in-Err.trap) c.in-Err.trap old.regs old.regs c.trap_end.result refl c.trap_end.ensures)

pub returns-in-Err-clause-given : goal.returns-in-Err-clause-given
returns-in-Err-clause-given g c =
    let old : State = record { regs = c.args.regs.now; memory = g.B.Bus.memory c.args.bus.now } in
    ends_given old (Trap c.in-Err.trap) old.regs old.memory (sym c.in-Err.ensures.trap) refl _ c.trap_end.result old.regs refl (by_trap c.in-Err.trap old.regs.pc c.trap_end.result c.trap_end.ensures)
    (trap_ends (Trap c.in-Err.trap) c.in-Err.trap old.regs old.regs c.trap_end.result refl c.trap_end.ensures)
