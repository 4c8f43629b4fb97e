use Rattle.std.proofs.Common.{arith, sym, subst}
use Rattle.thumb_core.specs.Step.{instr_for}
use Rattle.thumb_core.specs.Stores.{stores_for}
use Rattle.thumb_core.specs.Laws.{Acts, Follows}
use Rattle.thumb_core.proofs.Follows.{step_follows}
use Rattle.thumb_core.proofs.Acts.{step_acts}
use Rattle.thumb_core.proofs.step.step_for.Goals as goal

pub returns-clause-trap : goal.returns-clause-trap
returns-clause-trap g c =
    (subst (Follows c.args.regs.now (g.B.Bus.memory c.args.bus.now)) (sym c.fetch_and_execute.ensures) (step_follows c.args.profile c.args.regs.now (g.B.Bus.memory c.args.bus.now))).trap

pub returns-clause-stands : goal.returns-clause-stands
returns-clause-stands g c =
    (subst (Follows c.args.regs.now (g.B.Bus.memory c.args.bus.now)) (sym c.fetch_and_execute.ensures) (step_follows c.args.profile c.args.regs.now (g.B.Bus.memory c.args.bus.now))).stands (omega arith)

pub returns-clause-sound : goal.returns-clause-sound
returns-clause-sound g c =
    (subst (Follows c.args.regs.now (g.B.Bus.memory c.args.bus.now)) (sym c.fetch_and_execute.ensures) (step_follows c.args.profile c.args.regs.now (g.B.Bus.memory c.args.bus.now))).sound

pub returns-clause-memory : goal.returns-clause-memory
returns-clause-memory g c =
    (subst (Follows c.args.regs.now (g.B.Bus.memory c.args.bus.now)) (sym c.fetch_and_execute.ensures) (step_follows c.args.profile c.args.regs.now (g.B.Bus.memory c.args.bus.now))).memory

pub returns-clause-apart : goal.returns-clause-apart
returns-clause-apart g c =
    (subst (Acts (instr_for c.args.profile (g.B.Bus.memory c.args.bus.now) c.args.regs.now.pc) (stores_for c.args.profile (g.B.Bus.memory c.args.bus.now) c.args.regs.now) c.args.regs.now (g.B.Bus.memory c.args.bus.now))
    (sym c.fetch_and_execute.ensures) (step_acts c.args.profile c.args.regs.now (g.B.Bus.memory c.args.bus.now) (record { count = omega arith; words = c.are_words.ensures }))).apart

pub returns-clause-leaves : goal.returns-clause-leaves
returns-clause-leaves g c =
    (subst (Acts (instr_for c.args.profile (g.B.Bus.memory c.args.bus.now) c.args.regs.now.pc) (stores_for c.args.profile (g.B.Bus.memory c.args.bus.now) c.args.regs.now) c.args.regs.now (g.B.Bus.memory c.args.bus.now))
    (sym c.fetch_and_execute.ensures) (step_acts c.args.profile c.args.regs.now (g.B.Bus.memory c.args.bus.now) (record { count = omega arith; words = c.are_words.ensures }))).leaves

pub returns-clause-leaves_memory : goal.returns-clause-leaves_memory
returns-clause-leaves_memory g c =
    (subst (Acts (instr_for c.args.profile (g.B.Bus.memory c.args.bus.now) c.args.regs.now.pc) (stores_for c.args.profile (g.B.Bus.memory c.args.bus.now) c.args.regs.now) c.args.regs.now (g.B.Bus.memory c.args.bus.now))
    (sym c.fetch_and_execute.ensures) (step_acts c.args.profile c.args.regs.now (g.B.Bus.memory c.args.bus.now) (record { count = omega arith; words = c.are_words.ensures }))).memory
