use Rattle.std.proofs.Common.{sym, subst}
use Rattle.eh_bus.specs.Memory.{Memory}
use Rattle.eh_machine.specs.Cached.{IsConfirmed}
use Rattle.eh_machine.proofs.Confirmed.{stays}
use Rattle.eh_gates.specs.State.{State, state_of}
use Rattle.sim_machines.specs.Checked.{program_of}
use Rattle.eh_machine.proofs.Events.{end_turned, given_end, fault_free_end}
use Rattle.eh_machine.proofs.event.turn_unconfirmed.Goals as goal

pub returns-in-Err-clause-told : goal.returns-in-Err-clause-told
returns-in-Err-clause-told g c =
    let p = program_of c.args.a.now in
    let s : State = state_of c.args.core.now (g.B.Bus.memory c.args.shared.now.bus) c.args.events.now in
    let passes = c.in-Err.ensures.ends in
    end_turned _ _ p s c.in-Err.end s (passes.does c.args.events.now) passes.inside

pub returns-in-Err-clause-given : goal.returns-in-Err-clause-given
returns-in-Err-clause-given g c =
    let p = program_of c.args.a.now in
    let s : State = state_of c.args.core.now (g.B.Bus.memory c.args.shared.now.bus) c.args.events.now in
    let passes = c.in-Err.ensures.ends in
    given_end (g.O.Sink.written c.args.out.now) p s c.in-Err.end s (passes.does c.args.events.now) passes.inside

pub returns-in-Err-clause-faults : goal.returns-in-Err-clause-faults
returns-in-Err-clause-faults g c = fault_free_end c.in-Err.end _ _ c.in-Err.ensures.ends.inside

pub returns-clause-confirmed : goal.returns-clause-confirmed
returns-clause-confirmed g c =
    stays _ _ _ c.turn_at.ensures.map (subst (λ (m : Memory). IsConfirmed m c.keep.new.self) (sym c.keep.ensures.same) (c.keep.ensures.confirmed c.requires.confirmed))
