use Rattle.std.proofs.Common.{arith, sym, subst, Some}
use Rattle.thumb_core.specs.Stores.{stores_of}
use Rattle.thumb_core.specs.Laws.{Acts, Follows}
use Rattle.thumb_core.proofs.Follows.{effect_follows}
use Rattle.thumb_core.proofs.Acts.{effect_acts}
use Rattle.thumb_core.proofs.step.execute.Goals as goal

pub returns-clause-trap : goal.returns-clause-trap
returns-clause-trap g c =
    (subst (Follows c.args.regs.now (g.B.Bus.memory c.args.bus.now)) (sym c.execute_instr.ensures) (effect_follows c.args.i c.args.size c.args.regs.now (g.B.Bus.memory c.args.bus.now))).trap

pub returns-clause-stands : goal.returns-clause-stands
returns-clause-stands g c =
    (subst (Follows c.args.regs.now (g.B.Bus.memory c.args.bus.now)) (sym c.execute_instr.ensures) (effect_follows c.args.i c.args.size c.args.regs.now (g.B.Bus.memory c.args.bus.now))).stands (omega arith)

pub returns-clause-sound : goal.returns-clause-sound
returns-clause-sound g c =
    (subst (Follows c.args.regs.now (g.B.Bus.memory c.args.bus.now)) (sym c.execute_instr.ensures) (effect_follows c.args.i c.args.size c.args.regs.now (g.B.Bus.memory c.args.bus.now))).sound

pub returns-clause-memory : goal.returns-clause-memory
returns-clause-memory g c =
    (subst (Follows c.args.regs.now (g.B.Bus.memory c.args.bus.now)) (sym c.execute_instr.ensures) (effect_follows c.args.i c.args.size c.args.regs.now (g.B.Bus.memory c.args.bus.now))).memory

pub returns-clause-apart : goal.returns-clause-apart
returns-clause-apart g c =
    (subst (Acts (Some (c.args.i, c.args.size)) (stores_of c.args.i c.args.regs.now) c.args.regs.now (g.B.Bus.memory c.args.bus.now)) (sym c.execute_instr.ensures)
    (effect_acts c.args.i c.args.size c.args.regs.now (g.B.Bus.memory c.args.bus.now) (record { count = omega arith; words = c.are_words.ensures }))).apart

pub returns-clause-leaves : goal.returns-clause-leaves
returns-clause-leaves g c =
    (subst (Acts (Some (c.args.i, c.args.size)) (stores_of c.args.i c.args.regs.now) c.args.regs.now (g.B.Bus.memory c.args.bus.now)) (sym c.execute_instr.ensures)
    (effect_acts c.args.i c.args.size c.args.regs.now (g.B.Bus.memory c.args.bus.now) (record { count = omega arith; words = c.are_words.ensures }))).leaves

pub returns-clause-leaves_memory : goal.returns-clause-leaves_memory
returns-clause-leaves_memory g c =
    (subst (Acts (Some (c.args.i, c.args.size)) (stores_of c.args.i c.args.regs.now) c.args.regs.now (g.B.Bus.memory c.args.bus.now)) (sym c.execute_instr.ensures)
    (effect_acts c.args.i c.args.size c.args.regs.now (g.B.Bus.memory c.args.bus.now) (record { count = omega arith; words = c.are_words.ensures }))).memory
