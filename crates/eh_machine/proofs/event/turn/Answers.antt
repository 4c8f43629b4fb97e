use Rattle.eh_gates.specs.declared.state.Turned.TheVariants.{Ended}
use Rattle.eh_gates.specs.State.{State, state_of}
use Rattle.sim_machines.specs.Checked.{program_of}
use Rattle.eh_machine.proofs.Events.{end_turned, given_end, fault_free_end}
use Rattle.eh_machine.proofs.Following.{follows_once}
use Rattle.eh_machine.proofs.event.turn.Goals as goal

pub returns-in-Err-clause-told : goal.returns-in-Err-clause-told
returns-in-Err-clause-told g c =
    let p = program_of c.args.a.now in
    let s : State = state_of c.args.core.now (g.B.Bus.memory c.args.shared.now.bus) c.args.events.now in
    let passes = c.in-Err.ensures.ends in
    end_turned _ _ p s c.in-Err.end s (passes.does c.args.events.now) passes.inside

pub returns-in-Err-clause-given : goal.returns-in-Err-clause-given
returns-in-Err-clause-given g c =
    let p = program_of c.args.a.now in
    let s : State = state_of c.args.core.now (g.B.Bus.memory c.args.shared.now.bus) c.args.events.now in
    let passes = c.in-Err.ensures.ends in
    given_end (g.O.Sink.written c.args.out.now) p s c.in-Err.end s (passes.does c.args.events.now) passes.inside

pub returns-in-Err-clause-faults : goal.returns-in-Err-clause-faults
returns-in-Err-clause-faults g c = fault_free_end c.in-Err.end _ _ c.in-Err.ensures.ends.inside

-- ---- with recorded activations

pub returns-in-Err-clause-recorded : goal.returns-in-Err-clause-recorded
returns-in-Err-clause-recorded g c =
    let p = program_of c.args.a.now in
    let s : State = state_of c.args.core.now (g.B.Bus.memory c.args.shared.now.bus) c.args.events.now in
    let passes = c.in-Err.ensures.ends in
    follows_once (g.I.Source.left c.args.input.now) (g.I.Source.left c.args.input.now) (g.O.Sink.written c.args.out.now) (g.O.Sink.written c.args.out.now)
    c.args.a.now s s (Ended c.in-Err.end) c.holds.ensures.image c.holds.ensures.sound
    (end_turned (g.I.Source.left c.args.input.now) (g.O.Sink.written c.args.out.now) p s c.in-Err.end s (passes.does c.args.events.now) passes.inside)

pub returns-in-Ok-clause-recorded : goal.returns-in-Ok-clause-recorded
returns-in-Ok-clause-recorded g c =
    let old : State = state_of c.args.core.now (g.B.Bus.memory c.args.shared.now.bus) c.args.events.now in
    let new : State = state_of c.turn_at.new.core (g.B.Bus.memory c.turn_at.new.shared.bus) c.turn_at.new.events in
    follows_once (g.I.Source.left c.args.input.now) (g.I.Source.left c.turn_at.new.input) (g.O.Sink.written c.args.out.now) (g.O.Sink.written c.turn_at.new.out)
    c.args.a.now old new c.turn_at.result c.holds.ensures.image c.holds.ensures.sound c.turn_at.ensures.told
