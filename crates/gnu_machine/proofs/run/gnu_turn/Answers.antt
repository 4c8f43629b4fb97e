use Rattle.eh_gates.specs.State.{state_of}
use Rattle.sim_machines.specs.Checked.{program_of}
use Rattle.gnu_machine.proofs.Turning.{goes_told, goes_given, ends_told, ends_given}
use Rattle.gnu_machine.proofs.run.gnu_turn.Goals as goal

pub returns-in-Went-clause-told : goal.returns-in-Went-clause-told
returns-in-Went-clause-told g c =
    goes_told (program_of c.args.a.now) c.args.filters.now (state_of c.args.core.now (g.B.Bus.memory c.args.shared.now.bus) c.args.events.now)
    (state_of c.turn.new.core (g.B.Bus.memory c.turn.new.shared.bus) c.turn.new.events) _ (rw c.totals_of-before.ensures at c.give_pad_arguments.ensures) _ _ _ _ c.in-Went.ensures.told

pub returns-in-Went-clause-given : goal.returns-in-Went-clause-given
returns-in-Went-clause-given g c =
    goes_given (program_of c.args.a.now) c.args.filters.now (state_of c.args.core.now (g.B.Bus.memory c.args.shared.now.bus) c.args.events.now)
    (state_of c.turn.new.core (g.B.Bus.memory c.turn.new.shared.bus) c.turn.new.events) _ (rw c.totals_of-before.ensures at c.give_pad_arguments.ensures) _ _ c.in-Went.ensures.given

pub returns-in-Ended-clause-told : goal.returns-in-Ended-clause-told
returns-in-Ended-clause-told g c =
    ends_told (program_of c.args.a.now) c.args.filters.now (state_of c.args.core.now (g.B.Bus.memory c.args.shared.now.bus) c.args.events.now)
    (state_of c.turn.new.core (g.B.Bus.memory c.turn.new.shared.bus) c.turn.new.events) c.in-Ended.end _ _ _ _ c.in-Ended.ensures.told

pub returns-in-Ended-clause-given : goal.returns-in-Ended-clause-given
returns-in-Ended-clause-given g c =
    ends_given (program_of c.args.a.now) c.args.filters.now (state_of c.args.core.now (g.B.Bus.memory c.args.shared.now.bus) c.args.events.now)
    (state_of c.turn.new.core (g.B.Bus.memory c.turn.new.shared.bus) c.turn.new.events) c.in-Ended.end _ _ c.in-Ended.ensures.given
