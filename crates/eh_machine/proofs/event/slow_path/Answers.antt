use Rattle.std.proofs.Common.{Some, None}
use Rattle.std.proofs.lemmas.Bool.{lt-ltb, le-ltb}
use Rattle.run_gates.specs.declared.gates.TheConstants.{INPUT_GATE}
use Rattle.eh_gates.specs.State.{State, state_of}
use Rattle.sim_machines.specs.Checked.{program_of}
use Rattle.eh_machine.proofs.Events.{end_turned, plain_turned, gate_told, plain_gate_told, given_end, given_plain, given_gate_told, given_gate, as_gate, ok_gate, fault_free, fault_free_went}
use Rattle.eh_bus.proofs.MapLaws.{map_trans}
use Rattle.eh_machine.proofs.Confirmed.{passes_map}
use Rattle.eh_machine.proofs.event.slow_path.Goals as goal

pub returns-in-Err-clause-told : goal.returns-in-Err-clause-told
returns-in-Err-clause-told g c =
    let p = program_of c.args.a.now in
    let s : State = state_of c.args.core.now (g.B.Bus.memory c.args.shared.now.bus) c.args.events.now in
    let passes = c.in-Err.ensures.passes in
    end_turned _ _ p s c.in-Err.end _ (passes.does c.args.events.now) passes.inside

pub returns-in_default-clause-told : goal.returns-in_default-clause-told
returns-in_default-clause-told g c =
    let p = program_of c.args.a.now in
    let s : State = state_of c.args.core.now (g.B.Bus.memory c.args.shared.now.bus) c.args.events.now in
    let passes = c.in-Ok.ensures.passes in
    plain_turned _ _ p s c.in-Ok.what _ (passes.does c.args.events.now) c.in_default.not-Gate

pub returns-in_default-clause-faults : goal.returns-in_default-clause-faults
returns-in_default-clause-faults g c = fault_free_went _ _

pub returns-then-number-gt-INPUT_GATE-clause-told : goal.returns-then-number-gt-INPUT_GATE-clause-told
returns-then-number-gt-INPUT_GATE-clause-told g c =
    let p = program_of c.args.a.now in
    let s : State = state_of c.args.core.now (g.B.Bus.memory c.args.shared.now.bus) c.args.events.now in
    let passes = c.in-Ok.ensures.passes in
    gate_told _ _ p s _ _ _ c.in-Gate.number c.gate.result _ _ (as_gate p s _ c.in-Ok.what c.in-Gate.number c.in-Gate.is (passes.does c.args.events.now))
    (lt-ltb INPUT_GATE c.in-Gate.number c.if-number-gt-INPUT_GATE.true) c.gate.ensures.does c.tables.ensures.index c.tables.ensures.types
    (passes.gate c.in-Gate.number c.args.events.now (ok_gate c.in-Ok.what c.in-Gate.number c.in-Gate.is)) c.gate.ensures.inside

pub returns-then-number-gt-INPUT_GATE-clause-faults : goal.returns-then-number-gt-INPUT_GATE-clause-faults
returns-then-number-gt-INPUT_GATE-clause-faults g c = fault_free _ _ _ c.gate.ensures.inside

pub returns-in-None-clause-told : goal.returns-in-None-clause-told
returns-in-None-clause-told g c =
    let p = program_of c.args.a.now in
    let s : State = state_of c.args.core.now (g.B.Bus.memory c.args.shared.now.bus) c.args.events.now in
    let passes = c.in-Ok.ensures.passes in
    plain_gate_told _ _ _ _ p s _ c.in-Gate.number c.args.core.now.regs.pc c.gate-2.new.regs None
    (as_gate p s _ c.in-Ok.what c.in-Gate.number c.in-Gate.is (passes.does c.args.events.now))
    (le-ltb INPUT_GATE c.in-Gate.number c.if-number-gt-INPUT_GATE.false)
    (passes.gate c.in-Gate.number c.args.events.now (ok_gate c.in-Ok.what c.in-Gate.number c.in-Gate.is)) c.in-None.ensures.told

pub returns-in-Some-clause-told : goal.returns-in-Some-clause-told
returns-in-Some-clause-told g c =
    let p = program_of c.args.a.now in
    let s : State = state_of c.args.core.now (g.B.Bus.memory c.args.shared.now.bus) c.args.events.now in
    let passes = c.in-Ok.ensures.passes in
    plain_gate_told _ _ _ _ p s _ c.in-Gate.number c.args.core.now.regs.pc c.gate-2.new.regs (Some c.in-Some.end)
    (as_gate p s _ c.in-Ok.what c.in-Gate.number c.in-Gate.is (passes.does c.args.events.now))
    (le-ltb INPUT_GATE c.in-Gate.number c.if-number-gt-INPUT_GATE.false)
    (passes.gate c.in-Gate.number c.args.events.now (ok_gate c.in-Ok.what c.in-Gate.number c.in-Gate.is)) c.in-Some.ensures.told

-- ---- on bytes that were given

pub returns-in-Err-clause-given : goal.returns-in-Err-clause-given
returns-in-Err-clause-given g c =
    let p = program_of c.args.a.now in
    let s : State = state_of c.args.core.now (g.B.Bus.memory c.args.shared.now.bus) c.args.events.now in
    let passes = c.in-Err.ensures.passes in
    given_end (g.O.Sink.written c.args.out.now) p s c.in-Err.end _ (passes.does c.args.events.now) passes.inside

pub returns-in_default-clause-given : goal.returns-in_default-clause-given
returns-in_default-clause-given g c =
    let p = program_of c.args.a.now in
    let s : State = state_of c.args.core.now (g.B.Bus.memory c.args.shared.now.bus) c.args.events.now in
    let passes = c.in-Ok.ensures.passes in
    given_plain (g.O.Sink.written c.args.out.now) p s c.in-Ok.what _ (passes.does c.args.events.now) c.in_default.not-Gate

pub returns-then-number-gt-INPUT_GATE-clause-given : goal.returns-then-number-gt-INPUT_GATE-clause-given
returns-then-number-gt-INPUT_GATE-clause-given g c =
    let p = program_of c.args.a.now in
    let s : State = state_of c.args.core.now (g.B.Bus.memory c.args.shared.now.bus) c.args.events.now in
    let passes = c.in-Ok.ensures.passes in
    given_gate_told (g.O.Sink.written c.args.out.now) p s _ _ _ c.in-Gate.number c.gate.result _ _ (as_gate p s _ c.in-Ok.what c.in-Gate.number c.in-Gate.is (passes.does c.args.events.now))
    (lt-ltb INPUT_GATE c.in-Gate.number c.if-number-gt-INPUT_GATE.true) c.gate.ensures.does c.tables.ensures.index c.tables.ensures.types
    (passes.gate c.in-Gate.number c.args.events.now (ok_gate c.in-Ok.what c.in-Gate.number c.in-Gate.is)) c.gate.ensures.inside

pub returns-in-None-clause-given : goal.returns-in-None-clause-given
returns-in-None-clause-given g c =
    let p = program_of c.args.a.now in
    let s : State = state_of c.args.core.now (g.B.Bus.memory c.args.shared.now.bus) c.args.events.now in
    let passes = c.in-Ok.ensures.passes in
    given_gate _ _ p s _ c.in-Gate.number c.args.core.now.regs.pc c.gate-2.new.regs None
    (as_gate p s _ c.in-Ok.what c.in-Gate.number c.in-Gate.is (passes.does c.args.events.now))
    (le-ltb INPUT_GATE c.in-Gate.number c.if-number-gt-INPUT_GATE.false)
    (passes.gate c.in-Gate.number c.args.events.now (ok_gate c.in-Ok.what c.in-Gate.number c.in-Gate.is)) c.in-None.ensures.given

pub returns-in-Some-clause-given : goal.returns-in-Some-clause-given
returns-in-Some-clause-given g c =
    let p = program_of c.args.a.now in
    let s : State = state_of c.args.core.now (g.B.Bus.memory c.args.shared.now.bus) c.args.events.now in
    let passes = c.in-Ok.ensures.passes in
    given_gate _ _ p s _ c.in-Gate.number c.args.core.now.regs.pc c.gate-2.new.regs (Some c.in-Some.end)
    (as_gate p s _ c.in-Ok.what c.in-Gate.number c.in-Gate.is (passes.does c.args.events.now))
    (le-ltb INPUT_GATE c.in-Gate.number c.if-number-gt-INPUT_GATE.false)
    (passes.gate c.in-Gate.number c.args.events.now (ok_gate c.in-Ok.what c.in-Gate.number c.in-Gate.is)) c.in-Some.ensures.given

-- ---- the map

pub returns-in-Err-clause-map : goal.returns-in-Err-clause-map
returns-in-Err-clause-map g c = passes_map (program_of c.args.a.now) _ _ _ _ _ c.in-Err.ensures.passes

pub returns-in_default-clause-map : goal.returns-in_default-clause-map
returns-in_default-clause-map g c = passes_map (program_of c.args.a.now) _ _ _ _ _ c.in-Ok.ensures.passes

pub returns-in-None-clause-map : goal.returns-in-None-clause-map
returns-in-None-clause-map g c = passes_map (program_of c.args.a.now) _ _ _ _ _ c.in-Ok.ensures.passes

pub returns-in-Some-clause-map : goal.returns-in-Some-clause-map
returns-in-Some-clause-map g c = passes_map (program_of c.args.a.now) _ _ _ _ _ c.in-Ok.ensures.passes

pub returns-then-number-gt-INPUT_GATE-clause-map : goal.returns-then-number-gt-INPUT_GATE-clause-map
returns-then-number-gt-INPUT_GATE-clause-map g c = map_trans _ _ _ (passes_map (program_of c.args.a.now) _ _ _ _ _ c.in-Ok.ensures.passes) c.gate.ensures.map
